use Rattle.std.proofs.Common.{◌≡◌, ℕ, ◌-◌, [], length, replicate}
use mathlib.Core.Option.{some}
use lib.ListN.{get_elem?}
use Rattle.scan_claim.specs.declared.claims.ClaimSeat.{ClaimSeat}
use Rattle.scan_claim.specs.Drawing.{drawn}
use Rattle.scan_claim.proofs.Made.{IsMade}
use Rattle.scan_claim.proofs.claims.Claims.new.Given as goal

abbrev pub invariant-loop-i : goal.invariant-loop-i
invariant-loop-i l = record {
  here : l.rest.table_id ≡ l.table.shared.table_id;
  free : l.rest.me.1 ≡ [];
  view : l.rest.me.0 ≡ drawn l.blocks l.callers l._i (replicate (l.callers - l._i) []);
  count : length l.seats.items ≡ l._i;
  made : (k : ℕ) (s : ClaimSeat) → get_elem? l.seats.items k ≡ some s → IsMade l.table.shared.table_id l.blocks l.callers k s;
}
