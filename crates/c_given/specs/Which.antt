-- Which queue lies in given memory, and what waits there for the processes that take its ends.
use Rattle.std.specs.Prelude.{◌≡◌, refl}
use Rattle.std.specs.Coded.{Coded, code_by, coded×}
use Rattle.atomic_table.specs.Seated.{TableId, table_id_coded}
use Rattle.ring_rule.specs.Ring.{Ring}
use Rattle.ring_rule.specs.Ends.{first_receiving}
use Rattle.ring_rule.specs.Codes.{ring_code}
use Rattle.mq_ring.specs.Ends.{SendingEnd, ReceivingEnd}
use Rattle.mq_handle.specs.Held.{IsUnsent}
use Rattle.mq_handle.specs.Receives.{Incoming}

-- its region and its ring
pub record Which : Type 0 where
  pub region : TableId
  pub ring : Ring

abbrev pub which : TableId → Ring → Which
which region ring = record { region = region; ring = ring }

abbrev pub which_code : Coded Which
which_code = code_by (TableId × Ring) (coded× table_id_coded ring_code) (λ w. (w.region, w.ring)) (λ p. record { region = p.0; ring = p.1 }) (λ _. refl)

-- the sending end of this queue, by which nothing was sent
pub record IsSenderOf (w : Which) (s : SendingEnd) : Type 0 where
  pub here : s.region ≡ w.region
  pub ring : s.end.ring ≡ w.ring
  pub unsent : IsUnsent s.end

-- its receiving end, by which nothing was received
pub record IsReceiverOf (w : Which) (q : ReceivingEnd) : Type 0 where
  pub here : q.region ≡ w.region
  pub end : q.end ≡ first_receiving w.ring

-- both of them
abbrev pub ArePair : Which → SendingEnd → ReceivingEnd → Type 0
ArePair w s q = IsSenderOf w s × IsReceiverOf w q

-- the same end with room for a message
abbrev pub IsInboxOf : Which → Incoming → Type 0
IsInboxOf w q = (q.region ≡ w.region) × (q.end ≡ first_receiving w.ring)
