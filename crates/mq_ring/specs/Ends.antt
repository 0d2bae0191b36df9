-- What contracts see of the two ends of a ring, and of the ends that came home.
use Rattle.std.specs.Prelude.{◌≡◌, ℕ, ◌+◌, ◌≤◌, [], length, Option, None, refl}
use Rattle.std.specs.Coded.{Coded, code_by, coded×, coded_ℕ, coded_option}
use Rattle.atomic_table.specs.Seated.{TableId, table_id_coded}
use Rattle.atomic_table.specs.Table.{Me}
use Rattle.word_map.specs.WordMap.{WordMap}
use Rattle.ring_rule.specs.Ring.{Ring, IsRing, Sending, Receiving, AreEnds, count_word}
use Rattle.ring_rule.specs.Ends.{first_sending, first_receiving}
use Rattle.ring_rule.specs.Codes.{sending_code, receiving_code}
use Rattle.region_rule.specs.View.{View, Sender, Receiver, Done, map_code}
use Rattle.region_rule.specs.Places.{Token, IsIdle}
use Rattle.region_rule.specs.RingMap.{ring_map}
use Rattle.region_words.specs.Parts.{IsSized}

-- the sender's end: its region, what it knows, what the receiver was at their last meeting, the words of the chunk
-- after the ring, and the bytes of the whole chunk
pub record SendingEnd : Type 0 where
  pub region : TableId
  pub end : Sending
  pub told : Option Receiving
  pub rest : WordMap
  pub bytes : ℕ

-- such an end, of its five parts
abbrev pub sending_end : TableId → Sending → Option Receiving → WordMap → ℕ → SendingEnd
sending_end region s told rest bytes = record { region = region; end = s; told = told; rest = rest; bytes = bytes }

-- the receiver's end: its region, what it knows, and what the sender was at their last meeting
pub record ReceivingEnd : Type 0 where
  pub region : TableId
  pub end : Receiving
  pub told : Option Sending

-- such an end, of its three parts
abbrev pub receiving_end : TableId → Receiving → Option Sending → ReceivingEnd
receiving_end region q told = record { region = region; end = q; told = told }

-- the two ends that came home: the last view of each, the words of the chunk after the ring, and the bytes of the whole
-- chunk
pub record EndsHome : Type 0 where
  pub region : TableId
  pub sender : Sending
  pub receiver : Receiving
  pub rest : WordMap
  pub bytes : ℕ

-- such ends, of their five parts
abbrev pub ends_home : TableId → Sending → Receiving → WordMap → ℕ → EndsHome
ends_home region s q rest bytes = record { region = region; sender = s; receiver = q; rest = rest; bytes = bytes }

-- the ring of the given number of words at a place
abbrev pub ring_of : ℕ → ℕ → ℕ → ℕ → Ring
ring_of base size from max = record { base = base; size = size; start = from; max = max }

-- the code by which proofs distinguish sending ends
abbrev pub sending_end_code : Coded SendingEnd
sending_end_code = code_by (TableId × (Sending × (Option Receiving × (WordMap × ℕ)))) (coded× table_id_coded (coded× sending_code (coded× (coded_option receiving_code) (coded× map_code coded_ℕ))))
    (λ p. (p.region, (p.end, (p.told, (p.rest, p.bytes))))) (λ p. record { region = p.0; end = p.1.0; told = p.1.1.0; rest = p.1.1.1.0; bytes = p.1.1.1.1 }) (λ _. refl)

-- the code of receiving ends
abbrev pub receiving_end_code : Coded ReceivingEnd
receiving_end_code = code_by (TableId × (Receiving × Option Sending)) (coded× table_id_coded (coded× receiving_code (coded_option sending_code)))
    (λ p. (p.region, (p.end, p.told))) (λ p. record { region = p.0; end = p.1.0; told = p.1.1 }) (λ _. refl)

-- the code of ends that came home
abbrev pub ends_home_code : Coded EndsHome
ends_home_code = code_by (TableId × (Sending × (Receiving × (WordMap × ℕ)))) (coded× table_id_coded (coded× sending_code (coded× receiving_code (coded× map_code coded_ℕ))))
    (λ p. (p.region, (p.sender, (p.receiver, (p.rest, p.bytes))))) (λ p. record { region = p.0; sender = p.1.0; receiver = p.1.1.0; rest = p.1.1.1.0; bytes = p.1.1.1.1 }) (λ _. refl)

-- a ring that is none, for views that are no end's
abbrev no_ring : Ring
no_ring = ring_of 0 0 0 0

-- what a sender's token knows
abbrev pub tx_of : View → Sending
tx_of (Sender s t) = s
tx_of (Done m s q) = s
tx_of v = first_sending no_ring []

-- and what it learnt of the receiver's
abbrev pub tx_told : View → Option Receiving
tx_told (Sender s t) = t
tx_told v = None

-- what a receiver's token knows
abbrev pub rx_of : View → Receiving
rx_of (Receiver q u) = q
rx_of (Done m s q) = q
rx_of v = first_receiving no_ring

-- and what it learnt of the sender's
abbrev pub rx_told : View → Option Sending
rx_told (Receiver q u) = u
rx_told v = None

-- where a ring of these numbers lies in its region
pub record LiesIn (region : TableId) (r : Ring) (base size max : ℕ) : Type 0 where
  pub ring : IsRing r
  pub base_is : base ≡ r.base
  pub size_is : size ≡ r.size
  pub max_is : max ≡ r.max
  pub inside : base + 3 + size ≤ region.words
  pub sized : IsSized region

-- what the numbers of a sender's end are: its position is the word of the count of what it has put
pub record IsSender (region rest : TableId) (me : Me ℕ Token) (base size max position : ℕ) : Type 0 where
  pub sends : IsIdle me (Sender (tx_of me.0.view) (tx_told me.0.view))
  pub lies : LiesIn region (tx_of me.0.view).ring base size max
  pub position_is : position ≡ count_word (tx_of me.0.view).ring (length (tx_of me.0.view).put)
  pub rest_here : rest ≡ region

-- what the numbers of a receiver's end are: its position is the word of the count of what it has taken
pub record IsReceiver (region : TableId) (me : Me ℕ Token) (base size max position : ℕ) : Type 0 where
  pub receives : IsIdle me (Receiver (rx_of me.0.view) (rx_told me.0.view))
  pub lies : LiesIn region (rx_of me.0.view).ring base size max
  pub position_is : position ≡ count_word (rx_of me.0.view).ring (length (rx_of me.0.view).taken)
  pub returned : (rx_of me.0.view).returned ≤ length (rx_of me.0.view).taken
  pub taken : length (rx_of me.0.view).taken ≤ (rx_of me.0.view).avail

-- the token of the ends that came home
pub record IsHome (region rest : TableId) (me : Me ℕ Token) (base size max : ℕ) : Type 0 where
  pub done : IsIdle me (Done (ring_map (tx_of me.0.view) (rx_of me.0.view)) (tx_of me.0.view) (rx_of me.0.view))
  pub ends : AreEnds (tx_of me.0.view) (rx_of me.0.view)
  pub lies : LiesIn region (tx_of me.0.view).ring base size max
  pub rest_here : rest ≡ region
