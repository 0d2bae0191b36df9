use Rattle.std.proofs.Common.{◌≡◌, ◌∙◌, ℕ, Bool, cond, sym, ap, subst, arith}
use mathlib.Core.Logic.{dite}
use native.Mathlib.Decide.{ℕ_discrete}
use Rattle.std.specs.FinMap as fin
use Rattle.lock_book.specs.History.{last_of}
use Rattle.lock_book.specs.Shown.{seen_of}
use Rattle.dshash_parts.specs.States.{fresh}
use Rattle.dshash_parts.specs.Tables.{map_at}
use Rattle.page_cache.proofs.calls.make_room.Goals as goal

pub loop-seen-preserved : goal.loop-seen-preserved
loop-seen-preserved g c =
    let i = c.loop-seen.invariant in
    let e = c.in-Ok-false.ensures in
    let test = c.in-Ok-false.field-0-test in
    let zero : cond {A = ℕ} c.in-Ok-false.field-0 1 0 ≡ 0 = ap (λ (b : Bool). cond {A = ℕ} b 1 0) test in
    let was = c.requires.seat.hand in
    let hand = i.hand in
    let next = e.hand in
    record {
      seat = (e.seat.0, e.seat.1 ∙ i.seat.1);
      same = λ n. e.same n ∙ i.same n;
      none = e.ticket ∙ zero;
      hand = omega (arith, hand, next);
      empty = λ k low near. dite (ℕ_discrete k c.loop-seen.seat.hand)
          (λ is. subst (λ (z : ℕ). fin.len (map_at (seen_of c.evict.new.seat.pass) z) ≡ 0) (sym is) (e.empty test))
          (λ ne. ap (λ es. fin.len (last_of fresh es).cells) (e.others k ne) ∙ i.empty k low (omega (arith, hand, was)));
    }
