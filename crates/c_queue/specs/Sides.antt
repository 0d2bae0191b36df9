-- What each side of a queue is.
use Rattle.std.specs.Prelude.{◌≡◌, ℕ, ◌≤◌, Bool, List, [], length, take, Option, None, Some, IfSome, refl}
use Rattle.std.specs.Coded.{Coded, code_by, coded×, coded_list, coded_ℕ, coded_option}
use Rattle.atomic_table.specs.Seated.{TableId}
use Rattle.mq_ring.specs.Ends.{SendingEnd, sending_end_code}
use Rattle.mq_handle.specs.Messages.{whole_of, left_of}
use Rattle.mq_handle.specs.Sends.{Continues}
use Rattle.mq_handle.specs.Receives.{Incoming}

-- the sending side: its end of the queue, and the message of which a part may be on the ring
pub record Outgoing : Type 0 where
  pub sender : SendingEnd
  pub begun : Option (List ℕ)

abbrev pub outgoing : SendingEnd → Option (List ℕ) → Outgoing
outgoing s begun = record { sender = s; begun = begun }

abbrev pub outgoing_code : Coded Outgoing
outgoing_code = code_by (SendingEnd × Option (List ℕ)) (coded× sending_end_code (coded_option (coded_list coded_ℕ))) (λ p. (p.sender, p.begun)) (λ p. record { sender = p.0; begun = p.1 }) (λ _. refl)

-- the messages that a side has sent, and those that a side has received: the whole ones of its words
abbrev pub sent_by : Outgoing → List (List ℕ)
sent_by o = whole_of o.sender.end.put

abbrev pub received_by : Incoming → List (List ℕ)
received_by q = whole_of q.end.taken

-- the two sides are of one queue
abbrev pub IsOneQueue : Outgoing → Incoming → Type 0
IsOneQueue o q = (q.region ≡ o.sender.region) × (q.end.ring ≡ o.sender.end.ring)

-- the message of that length at the front of these bytes
abbrev pub begun_of : Option ℕ → List ℕ → Option (List ℕ)
begun_of None bytes = None
begun_of (Some n) bytes = Some (take n bytes)

-- what a sending side keeps: the region of its end, room for the greatest message, and, if words are left over after
-- the whole messages on the ring, the message whose frame they begin
pub record IsOutbox (region : TableId) (s : SendingEnd) (buffer : List ℕ) (begun : Option ℕ) (gone : Bool) : Type 0 where
  pub here : s.region ≡ region
  pub gone_is : gone ≡ s.end.gone
  pub room : length buffer ≡ s.end.ring.max
  pub fits : IfSome begun (λ n. n ≤ length buffer)
  pub whole : begun ≡ None → left_of s.end.put ≡ []
  pub part : IfSome (begun_of begun buffer) (λ m. Continues s.end.put m)

-- what a receiving side keeps: the region of its end, and the length of the greatest message
pub record IsInbox (region : TableId) (q : Incoming) (max : ℕ) (gone : Bool) : Type 0 where
  pub here : q.region ≡ region
  pub gone_is : gone ≡ q.end.gone
  pub max_is : max ≡ q.end.ring.max
