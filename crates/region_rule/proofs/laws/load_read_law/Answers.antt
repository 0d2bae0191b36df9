use Rattle.std.proofs.Common.{◌≡◌, ℕ, ap, slice_set, ◌∙◌}
use Rattle.region_rule.proofs.Effected.{turns}
use Rattle.region_rule.proofs.Partners.{receiver_of}
use Rattle.region_rule.specs.Sound.{World}
use Rattle.region_rule.specs.View.{Sender}
use Rattle.ring_rule.proofs.Counts.{read_count_is}
use Rattle.ring_rule.specs.Ends.{looks_read}
use Rattle.ring_rule.specs.Ring.{Ring, count_word}
use Rattle.region_rule.proofs.laws.load_read_law.Goals as goal

pub returns : goal.returns
returns c = λ before after i x s h.
    let o = receiver_of before i h.0 h.1 s h.3 in
    let own = s.honest i (Sender h.0 h.1) h.3 in
    let is = read_count_is before.words h.0 h.1 o.end o.told x h.2 own o.receiving o.paired h.5 h.6 in
    let view : after.views ≡ slice_set before.views i (Sender (looks_read h.0 o.end.returned) h.1) =
    ap (λ (w : World). w.views) h.7 ∙ ap (λ (n : ℕ). slice_set before.views i (Sender (looks_read h.0 n) h.1)) is in
    let word = h.6.word ∙ ap (λ (n : ℕ). count_word h.0.ring n) is ∙ ap (λ (r : Ring). count_word r o.end.returned) o.paired.tied.same in
    (h.0, o.end, (h.1, turns before after i _ _ h.3 view), ap (λ (w : World). w.words) h.7, h.4, (o.token, o.told, o.there, o.paired.tied.same), word)
