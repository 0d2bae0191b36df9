-- What a try to receive does to the receiver's end.
use Rattle.std.specs.Prelude.{◌≡◌, ℕ, ◌+◌, ◌<◌, ◌≤◌, ◌/◌, true, cond, ltb, List, [], ◌∷◌, ◌++◌, length, Option, refl}
use Rattle.std.specs.Coded.{Coded, code_by, coded×, coded_list, coded_ℕ, coded_option}
use Rattle.atomic_table.specs.Seated.{TableId, table_id_coded}
use Rattle.ring_rule.specs.Frames.{frame}
use Rattle.ring_rule.specs.Ring.{Sending, Receiving}
use Rattle.ring_rule.specs.Codes.{sending_code, receiving_code}
use Rattle.mq_handle.specs.Messages.{whole_of, left_of}

-- the receiving end of a queue: its region, what the ring's end knows, what the sender was at their last meeting, and
-- the message that the last receive call gave
pub record Incoming : Type 0 where
  pub region : TableId
  pub end : Receiving
  pub told : Option Sending
  pub message : List ℕ

-- such an end, by its parts
abbrev pub incoming : TableId → Receiving → Option Sending → List ℕ → Incoming
incoming region q told message = record { region = region; end = q; told = told; message = message }

-- the code by which proofs distinguish such ends
abbrev pub incoming_code : Coded Incoming
incoming_code = code_by (TableId × (Receiving × (Option Sending × List ℕ))) (coded× table_id_coded (coded× receiving_code (coded× (coded_option sending_code) (coded_list coded_ℕ))))
    (λ p. (p.region, (p.end, (p.told, p.message)))) (λ p. record { region = p.0; end = p.1.0; told = p.1.1.0; message = p.1.1.1 }) (λ _. refl)

-- the read count at the end of a message: all that was taken, if more than a quarter of the ring is above the count at
-- entry
abbrev pub returned_of : ℕ → ℕ → ℕ → ℕ
returned_of taken returned quarter = cond (ltb (returned + quarter) taken) taken returned

-- a message came
pub record IsReceived (old new : Receiving) (message : List ℕ) : Type 0 where
  pub whole : whole_of new.taken ≡ whole_of old.taken ++ message ∷ []
  pub left : left_of new.taken ≡ []
  pub ends : (before : List ℕ) × (new.taken ≡ before ++ frame message)
  pub short : length message ≤ old.ring.max
  pub returned : new.returned ≡ returned_of (length new.taken) old.returned (old.ring.size / 4)

-- no further word was there, and then the flag was not set
pub record IsWaiting (old new : Receiving) : Type 0 where
  pub looked : old.turn < new.looked
  pub empty : (new.looked_empty ≡ true) × (new.avail ≡ length new.taken)
  pub flag : (new.looked < new.flag_turn) × (new.flag_value ≡ 0)
  pub returned : new.returned ≡ length new.taken

-- the flag was set, and then no further word was there
pub record IsOver (old new : Receiving) : Type 0 where
  pub flag : (old.turn < new.flag_turn) × (new.flag_value ≡ 1)
  pub looked : new.flag_turn < new.looked
  pub empty : (new.looked_empty ≡ true) × (new.avail ≡ length new.taken)
  pub final : new.final ≡ true
