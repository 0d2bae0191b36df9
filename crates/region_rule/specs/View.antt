-- What a token of the region knows, which words it holds, and which of them it may hold together with another.
use Rattle.std.specs.Prelude.{◌≡◌, ℕ, refl, ◌⊎◌, List, Option}
use mathlib.Core.Logic.{inl, inr}
use base.Stored.{coded_unit}
use Rattle.std.specs.Coded.{Coded, code_by, coded×, coded⊎, coded_ℕ, coded_option}
use Rattle.std.specs.FinMap as fin
use Rattle.word_map.specs.WordMap.{WordMap, Has, at}
use Rattle.ring_rule.specs.Ring.{Ring, Sending, Receiving, InRing, ArePaired}
use Rattle.ring_rule.specs.Codes.{sending_code, receiving_code}

-- the two maps of a join, from the join to the load after it
abbrev pub Olds : Type 0
Olds = Option (WordMap × WordMap)

-- The view of a token, which only its own steps change:
-- an owner of words: only it reads and changes them;
-- a token of frozen words, which nobody changes any more;
-- the sender's or the receiver's end of a ring, each with what the other end was at their last meeting;
-- two ends that were joined, with the ring's words;
-- and a token that was joined to another and holds nothing more
pub data View : Type 0 where
  Own : WordMap → Olds → View
  Frozen : WordMap → View
  Sender : Sending → Option Receiving → View
  Receiver : Receiving → Option Sending → View
  Done : WordMap → Sending → Receiving → View
  Spent : View

-- the code by which proofs distinguish maps
abbrev pub map_code : Coded WordMap
map_code = fin.code coded_ℕ coded_ℕ

-- a view as nested choices, which have a code
abbrev Stored : Type 0
Stored = (WordMap × Olds) ⊎ (WordMap ⊎ ((Sending × Option Receiving) ⊎ ((Receiving × Option Sending) ⊎ ((WordMap × (Sending × Receiving)) ⊎ Unit {0}))))

-- a view as such choices
abbrev stored : View → Stored
stored (Own m olds) = inl (m, olds)
stored (Frozen m) = inr (inl m)
stored (Sender s told) = inr (inr (inl (s, told)))
stored (Receiver q told) = inr (inr (inr (inl (q, told))))
stored (Done m s q) = inr (inr (inr (inr (inl (m, (s, q))))))
stored Spent = inr (inr (inr (inr (inr tt))))

-- and back
abbrev restored : Stored → View
restored (inl p) = Own p.0 p.1
restored (inr (inl m)) = Frozen m
restored (inr (inr (inl p))) = Sender p.0 p.1
restored (inr (inr (inr (inl p)))) = Receiver p.0 p.1
restored (inr (inr (inr (inr (inl p))))) = Done p.0 p.1.0 p.1.1
restored (inr (inr (inr (inr (inr _))))) = Spent

-- nothing is lost on the way
pub restored-stored : (v : View) → restored (stored v) ≡ v
restored-stored (Own m olds) = refl
restored-stored (Frozen m) = refl
restored-stored (Sender s told) = refl
restored-stored (Receiver q told) = refl
restored-stored (Done m s q) = refl
restored-stored Spent = refl

-- the code by which proofs distinguish views
abbrev pub view_code : Coded View
view_code = code_by Stored
    (coded⊎ (coded× map_code (coded_option (coded× map_code map_code)))
    (coded⊎ map_code
    (coded⊎ (coded× sending_code (coded_option receiving_code))
    (coded⊎ (coded× receiving_code (coded_option sending_code))
    (coded⊎ (coded× map_code (coded× sending_code receiving_code)) coded_unit)))))
    stored restored restored-stored

-- the token holds word k
abbrev pub Holds : View → ℕ → Type 0
Holds (Own m olds) k = Has m k
Holds (Frozen m) k = Has m k
Holds (Sender s told) k = InRing s.ring k
Holds (Receiver q told) k = InRing q.ring k
Holds (Done m s q) k = Has m k
Holds Spent k = ⊥

-- two tokens may both hold word k: two of frozen words whose maps agree there, or the two ends of one ring
abbrev pub MayShare : List ℕ → View → View → ℕ → Type 0
MayShare words (Frozen m) (Frozen n) k = at m k ≡ at n k
MayShare words (Sender s t) (Receiver q u) k = ArePaired words s t q u
MayShare words (Receiver q u) (Sender s t) k = ArePaired words s t q u
MayShare words u v k = ⊥

-- what a token is to a ring: its sender, its receiver, or neither
pub data Role : Type 0 where
  Neither : Role
  Sends : Ring → Role
  Receives : Ring → Role

-- the role of a token
abbrev pub role : View → Role
role (Sender s told) = Sends s.ring
role (Receiver q told) = Receives q.ring
role u = Neither

-- the role of the token that has to exist along with it: the other end for an end, and for any other token its own
abbrev pub partner : Role → Role
partner Neither = Neither
partner (Sends r) = Receives r
partner (Receives r) = Sends r
