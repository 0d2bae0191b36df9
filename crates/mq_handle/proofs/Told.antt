-- What a sender found in its last load stays found in the steps after it.
use Rattle.std.proofs.Common.{◌≡◌, ◌<◌, ◌≤◌, ⊎_elim, inl, inr, Option, Some, None, ◌∙◌, arith}
use Rattle.ring_rule.specs.Ring.{Sending, Receiving}
use Rattle.mq_handle.specs.Told.{SawRoom, RoomFound}

pub saw_room : (told : Option Receiving) (b c : Sending) → c.room ≡ b.room → SawRoom told b → SawRoom told c
saw_room None b c e s = tt
saw_room (Some q) b c e s = omega (arith, e, s)

pub room_same : (told : Option Receiving) (a b : Sending) → b.looked ≡ a.looked → b.room ≡ a.room → RoomFound told a b
room_same told a b e f = inl (e, f)

-- the steps from a to b, and then those from b to c
pub room_on : (told : Option Receiving) (a b c : Sending) → a.turn ≤ b.turn → RoomFound told a b → RoomFound told b c → RoomFound told a c
room_on told a b c t p q = ⊎_elim
    (λ (k : (c.looked ≡ b.looked) × (c.room ≡ b.room)). ⊎_elim
    (λ (j : (b.looked ≡ a.looked) × (b.room ≡ a.room)). inl (k.0 ∙ j.0, k.1 ∙ j.1))
    (λ (j : (a.turn < b.looked) × SawRoom told b). inr (omega (arith, j.0, k.0), saw_room told b c k.1 j.1))
    p)
    (λ (k : (b.turn < c.looked) × SawRoom told c). inr (omega (arith, t, k.0), k.1))
    q
