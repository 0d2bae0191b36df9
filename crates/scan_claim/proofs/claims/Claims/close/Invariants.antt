use Rattle.std.proofs.Common.{◌≡◌, ℕ, ◌++◌, [], map}
use mathlib.Core.Option.{some}
use lib.ListN.{get_elem?}
use Rattle.scan_claim.specs.declared.claims.ClaimSeat.{ClaimSeat}
use Rattle.scan_claim.specs.Shown.{draws_of, Belongs}
use Rattle.scan_claim.proofs.claims.Claims.close.Given as goal

abbrev pub invariant-loop-one : goal.invariant-loop-one
invariant-loop-one l = record {
  here : l.whole.table_id ≡ l.table.shared.table_id;
  free : l.whole.me.1 ≡ [];
  for_blocks : l.whole.me.0.blocks ≡ l.fn.self.blocks;
  callers : l.whole.me.0.callers ≡ l.fn.self.callers;
  lists : map draws_of l.seats.items ++ l.whole.me.0.lists ≡ map draws_of l.fn.seats.items;
  left : (k : ℕ) (s : ClaimSeat) → get_elem? l.seats.items k ≡ some s → Belongs l.fn.self s;
}

abbrev pub decreases-loop-one : goal.decreases-loop-one
decreases-loop-one l = goal.left-loop-one l
