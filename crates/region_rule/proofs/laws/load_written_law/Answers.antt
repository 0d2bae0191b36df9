use Rattle.std.proofs.Common.{◌≡◌, ℕ, sym, ap, slice_set, ◌∙◌}
use Rattle.region_rule.proofs.Effected.{turns}
use Rattle.region_rule.proofs.Partners.{sender_of}
use Rattle.region_rule.specs.Sound.{World}
use Rattle.region_rule.specs.View.{Receiver}
use Rattle.ring_rule.proofs.Counts.{written_count_is}
use Rattle.ring_rule.specs.Ends.{looks_written}
use Rattle.ring_rule.specs.Ring.{Ring, count_word}
use Rattle.region_rule.proofs.laws.load_written_law.Goals as goal

pub returns : goal.returns
returns c = λ before after i x s h.
    let o = sender_of before i h.0 h.1 s h.3 in
    let own = s.honest i (Receiver h.0 h.1) h.3 in
    let is = written_count_is before.words o.end o.told h.0 h.1 x h.2 o.sending own o.paired h.6 h.7 in
    let view : after.views ≡ slice_set before.views i (Receiver (looks_written h.0 o.end.published) h.1) =
    ap (λ (w : World). w.views) h.8 ∙ ap (λ (n : ℕ). slice_set before.views i (Receiver (looks_written h.0 n) h.1)) is in
    let word = h.7.word ∙ ap (λ (n : ℕ). count_word h.0.ring n) is ∙ ap (λ (r : Ring). count_word r o.end.published) (sym o.paired.tied.same) in
    (h.0, o.end, (h.1, turns before after i _ _ h.3 view), ap (λ (w : World). w.words) h.8, h.4, h.5, (o.token, o.told, o.there, o.paired.tied.same), word)
