-- What a contract sees of the seats.
use Rattle.std.specs.Prelude.{◌≡◌, ℕ, List, length}
use mathlib.Core.Option.{some}
use lib.ListN.{get_elem?}
use Rattle.scan_claim.specs.declared.claims.ClaimSeat.{ClaimSeat}
use Rattle.scan_claim.specs.declared.claims.Claims.{Claims}
use Rattle.scan_claim.specs.declared.claims.Drawn.{Drawn}
use Rattle.scan_claim.specs.Drawing.{flat}

-- the numbers that the seat has drawn, in order
abbrev pub draws_of : ClaimSeat → List ℕ
draws_of s = flat s.seat.me.0.lists

-- the number of the seat's caller
abbrev pub number_of : ClaimSeat → ℕ
number_of s = s.seat.me.0.from

-- how many blocks the counter was made for
abbrev pub blocks_of : Claims → ℕ
blocks_of c = c.blocks

-- how many callers the counter was made for
abbrev pub callers_of : Claims → ℕ
callers_of c = c.callers

-- the seat is one of this counter
abbrev pub Belongs : Claims → ClaimSeat → Type 0
Belongs c s = (s.seat.table_id ≡ c.table.shared.table_id) × (s.seat.me.0.blocks ≡ c.blocks) × (s.seat.me.0.callers ≡ c.callers)

-- the seats of all callers, in order of their numbers
abbrev pub AreSeats : Claims → List ClaimSeat → Type 0
AreSeats c seats = (length seats ≡ c.callers) × ((k : ℕ) (s : ClaimSeat) → get_elem? seats k ≡ some s → Belongs c s × (number_of s ≡ k))

-- the draws of each seat, by its number
abbrev pub lists_of : Drawn → List (List ℕ)
lists_of d = d.seat.me.0.lists
