use Rattle.std.proofs.Common.{refl, sym, ap, length, List, ℕ, inl, arith}
use Rattle.mq_handle.proofs.Receipts.{fresh_hand}
use Rattle.mq_handle.proofs.receiver.Receiver.new.Goals as goal

pub invariant_of-result : goal.invariant_of-result
invariant_of-result c =
    let none = ap (λ (l : List ℕ). length l) c.requires.unread.taken in
    record {
      counts = record {
        ready_is = omega (arith, c.requires.unread.avail);
        unreturned_is = omega (arith, c.requires.unread.returned);
        few = omega (arith, c.requires.unread.avail);
        small = omega (arith, c.words-size.type_inv, c.words-size.ensures);
      };
      hand = fresh_hand _ _ _ c.requires.unread.taken;
      unfinished = inl refl;
      room = c.requires.room;
      held = λ e. cc;
      gone_is = sym c.requires.unread.stays;
    }
