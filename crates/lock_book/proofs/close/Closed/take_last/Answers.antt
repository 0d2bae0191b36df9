use Rattle.std.proofs.Common.{arith, ◌∙◌, sym, ap, ◌≤◌, ◌-◌}
use Rattle.std.specs.Mem.Slots.{slots_filled, slots_len}
use lib.ListN.{get_elem?}
use Rattle.lock_book.proofs.Closing.{still_there, now_gone}
use Rattle.lock_book.proofs.Totals.{there}
use Rattle.lock_book.proofs.close.Closed.take_last.Goals as goal

pub invariant_of-self : goal.invariant_of-self
invariant_of-self g c =
    let o = c.take-slot.ensures.others in
    let s = c.args.self.now in record {
      inside = (let h : s.left - 1 ≤ slots_len c.take-slot.new.self.slots = omega (arith, o.2, s.inside.0) in h, o.2 ∙ s.inside.1);
      there = still_there (slots_filled s.slots.slots) (slots_filled c.take-slot.new.self.slots) s.left o.1 s.there;
      gone = λ k lo hi. now_gone (slots_filled s.slots.slots) (slots_filled c.take-slot.new.self.slots) s.left (slots_len s.slots.slots) o.1 s.gone k lo (omega (arith, o.2));
      last = λ k x p ex ep. s.last k x p (ap (λ l. get_elem? l k) (sym o.0) ∙ ex) ep;
    }

pub returns-clause-value : goal.returns-clause-value
returns-clause-value g c =
    let s = c.args.self.now in
    let o = there s.note.me.0.opens (s.left - 1) (omega (arith, s.inside.0, s.inside.1, c.if-self-eq0.false)) in
    let h = s.last _ _ o.0 c.take-slot.ensures.value o.1 in
    (o.0, o.1, h.0, h.1)
