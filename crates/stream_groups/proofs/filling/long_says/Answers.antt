use Rattle.std.proofs.Common.{◌++◌, ◌∙◌, ℕ, List, ap, refl}
use Rattle.stream_groups.specs.Stops.{long_text}
use Rattle.stream_groups.proofs.filling.long_says.Goals as goal

pub returns : goal.returns
returns c = record {
  place = c.in_ok-place.place;
  is = c.in_ok-place.ensures;
  line = refl;
  says = c.in_ok-push_str.ensures.bytes ∙ (ap (λ (t : List ℕ). t ++ c.as_str.result.now) c.in_ok-said.ensures.ok ∙ ap (λ (t : List ℕ). long_text ++ t) c.as_str.ensures.value);
}
