use Rattle.std.proofs.Common.{◌≡◌, ◌<◌, [], ◌∷◌, ℕ, zero, suc, List, All, Some, slice_get, ap, subst, ◌∙◌, arith}
use mathlib.Core.Option.{some}
use lib.ListN.{get_elem?}
use Rattle.dshash_parts.specs.Ending.{whole_of}
use Rattle.lock_book.specs.History.{calls_by}
use Rattle.lock_book.proofs.Uses.{only}
use Rattle.agg_table.specs.Calls.{AggEntry, Group, HasPut, IsKeyed, calls_at, done_in}
use Rattle.agg_table.specs.Drained.{HoldsAll}
use Rattle.agg_table.specs.Ending.{IsClosed}
use Rattle.agg_table.specs.Shown.{callers_of, use_of}
use Rattle.agg_table.specs.declared.part.HashPart.{HashPart}
use Rattle.agg_table.specs.declared.part.HashSeat.{HashSeat}
use Rattle.uses_table.proofs.groups.gather_four.Goals as goal

pub put_four-requires-clause-seat : goal.put_four-requires-clause-seat
put_four-requires-clause-seat g c =
    let is = c.in_ok-region.ensures in
    is.seats.each 0 c.in-Some.seat (only _ _ _ c.in-Some.ensures.items (is.seats.count ∙ is.callers))

pub put_four-requires-clause-unused : goal.put_four-requires-clause-unused
put_four-requires-clause-unused g c =
    let is = c.in_ok-region.ensures in
    is.seats.unused 0 c.in-Some.seat (only _ _ _ c.in-Some.ensures.items (is.seats.count ∙ is.callers))

pub drain-requires-clause-part : goal.drain-requires-clause-part
drain-requires-clause-part g c = (c.in_ok-region.part, c.close-table.ensures.parts c.in_ok-region.region c.in_ok-region.ensures.part)

-- a table that its one participant has filled
one_holds : (p : HashPart) (s : HashSeat) (seats : List HashSeat) (history : ℕ → List AggEntry) (put : List Group) → IsClosed p seats history → get_elem? seats 0 ≡ some s → callers_of p ≡ 1 → HasPut put (use_of s) put [] → HoldsAll history (put ∷ [])
one_holds p s seats history put closed first one has = record {
  lawful = closed.lawful;
  keyed = keyed;
  done = done;
  no_others = λ k i past low. closed.no_others i k (omega (arith, past, one));
}
  where
    keyed : (k : ℕ) (q : List Group) → slice_get (put ∷ []) k ≡ Some q → All IsKeyed q
    keyed zero q e = let same : put ≡ q = cc in subst (All IsKeyed) same has.keyed
    keyed (suc k) q e = absurd (cc)

    done : (k i : ℕ) (q : List Group) → slice_get (put ∷ []) k ≡ Some q → i < 128 → done_in (calls_by k (history i)) ≡ calls_at i q
    done zero i q e low = let same : put ≡ q = cc in ap done_in (closed.mine 0 i s first) ∙ has.done i ∙ ap (calls_at i) same
    done (suc k) i q e low = absurd (cc)

pub drain-requires-clause-held : goal.drain-requires-clause-held
drain-requires-clause-held g c =
    let put = c.in_ok-put_four.ensures.put in (
      put.0 ∷ [],
      one_holds c.in_ok-region.part c.put_four.new.seat c.in_ok-seats.seats.items (whole_of c.close-table.result.0) put.0 c.close-table.ensures.closed (ap (λ l. get_elem? l 0) c.in_ok-seats.ensures.items) c.in_ok-region.ensures.callers put.1,
    )
