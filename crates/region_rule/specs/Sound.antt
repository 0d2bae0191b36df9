-- The region as plain data, and what holds of it at every moment.
use Rattle.std.specs.Prelude.{◌≡◌, ◌≢◌, ℕ, ◌^◌, ◌<◌, List, Some, IfSome}
use mathlib.Core.Option.{some}
use lib.ListN.{get_elem?}
use Rattle.word_map.specs.WordMap.{WordMap, at, Disjoint}
use Rattle.ring_rule.specs.Ring.{IsSending, IsReceiving, AreEnds}
use Rattle.region_rule.specs.RingMap.{ring_map}
use Rattle.region_rule.specs.View.{View, Own, Frozen, Sender, Receiver, Done, Spent, Holds, MayShare, Olds, role, partner}

-- the words, and the view of each token ever made
pub record World : Type 0 where
  pub words : List ℕ
  pub views : List View

-- token i has the view v
abbrev pub Sees : World → ℕ → View → Type 0
Sees w i v = get_elem? w.views i ≡ some v

-- each number is one of 64 bits
abbrev pub AreWords : List ℕ → Type 0
AreWords words = (k x : ℕ) → get_elem? words k ≡ some x → x < 2 ^ 64

-- the words have the values of m
abbrev pub Agrees : List ℕ → WordMap → Type 0
Agrees words m = (k x : ℕ) → at m k ≡ Some x → get_elem? words k ≡ some x

-- two maps that were joined had no word in common
abbrev pub OldsApart : Olds → Type 0
OldsApart olds = IfSome olds (λ p. Disjoint p.0 p.1)

-- the words are as the token knows them
abbrev pub Honest : List ℕ → View → Type 0
Honest words (Own m olds) = Agrees words m × OldsApart olds
Honest words (Frozen m) = Agrees words m
Honest words (Sender s told) = IsSending words s
Honest words (Receiver q told) = IsReceiving words q
Honest words (Done m s q) = Agrees words m × (m ≡ ring_map s q) × AreEnds s q
Honest words Spent = Unit {0}

-- a word that two tokens hold is one that they may share
abbrev pub Beside : List ℕ → View → View → Type 0
Beside words u v = (k : ℕ) → Holds u k → Holds v k → MayShare words u v k

-- some token is the partner of this one
abbrev pub HasPartner : World → View → Type 0
HasPartner w u = (j : ℕ) × (v : View) × Sees w j v × (role v ≡ partner (role u))

-- A world is sound if its words have 64 bits, each token knows its words as they are, no two tokens hold a word that
-- they may not share, and each end of a ring has its other end. (It has only one: two tokens of one role would hold the
-- ring's words together.)
pub record Sound (w : World) : Type 0 where
  pub fits : AreWords w.words
  pub honest : (i : ℕ) (v : View) → Sees w i v → Honest w.words v
  pub apart : (i j : ℕ) (u v : View) → i ≢ j → Sees w i u → Sees w j v → Beside w.words u v
  pub paired : (i : ℕ) (u : View) → Sees w i u → HasPartner w u
