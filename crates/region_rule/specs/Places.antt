-- Where the words of a region lie in the table. A word that a token owns, and a cell of a ring, lies in the slot of its
-- number: plain memory, which one seat at a time may have taken out. What several tokens read at once lies in the
-- table's word of that number: frozen words, and the two counts and the flag of a ring.
--
-- Who may take a slot out: the owner of its word; the sender of a ring the cells of the next words, as far as it has
-- room; and the receiver the cells of the next words, as far as it has seen that there are any.
use Rattle.std.specs.Prelude.{◌≡◌, ◌≢◌, ℕ, ◌+◌, ◌<◌, ◌≤◌, List, [], ◌∷◌, length, map, refl}
use mathlib.Core.Option.{some}
use lib.ListN.{get_elem?}
use Rattle.std.specs.Coded.{Coded, code_by, coded×, coded_list, coded_ℕ}
use Rattle.std.specs.List.{AllByRecursion}
use Rattle.atomic_table.specs.Table.{State, Me}
use Rattle.word_map.specs.WordMap.{Has}
use Rattle.ring_rule.specs.Ring.{Ring, place_of}
use Rattle.region_rule.specs.View.{View, Own, Frozen, Sender, Receiver, Done, Spent, view_code}
use Rattle.region_rule.specs.Steps.{Reached}

-- What a seat is: the token's view, the slots that it has taken out, each with the value that it found there, and how
-- many words it has copied, from which one on. An owner copies words from their slots, to freeze them or to make a ring
-- of them; joined ends copy their counts and their flag back
pub record Token : Type 0 where
  pub view : View
  pub out : List (ℕ × ℕ)
  pub from : ℕ
  pub copied : ℕ

-- a token that has these slots out, and has copied the n words from `from`
abbrev pub holding : View → List (ℕ × ℕ) → ℕ → ℕ → Token
holding v out from n = record { view = v; out = out; from = from; copied = n }

-- the same, with no slot out
abbrev pub copying : View → ℕ → ℕ → Token
copying v from n = holding v [] from n

-- the same, with the slot k taken out, in which it found x
abbrev pub taking : View → ℕ → ℕ → ℕ → ℕ → Token
taking v k x from n = holding v ((k, x) ∷ []) from n

-- a token between two calls
abbrev pub idle : View → Token
idle v = copying v 0 0

-- the seat of a token with the slot k taken out, in which it found x and now has y
abbrev pub out_of : Token → ℕ → ℕ → ℕ → Me ℕ Token
out_of t k x y = (taking t.view k x t.from t.copied, (k, y) ∷ [])

-- slots in a row from the place `at` on, with these values
abbrev pub row : ℕ → List ℕ → List (ℕ × ℕ)
row at [] = []
row at (x ∷ xs) = (at, x) ∷ row (at + 1) xs

-- the seat of a token with a row of slots taken out, in which it found xs and now has ys
abbrev pub row_out : View → ℕ → List ℕ → List ℕ → Me ℕ Token
row_out v at xs ys = (holding v (row at xs) 0 0, row at ys)

-- the code by which proofs distinguish tokens
abbrev pub token_code : Coded Token
token_code = code_by (View × (List (ℕ × ℕ) × (ℕ × ℕ))) (coded× view_code (coded× (coded_list (coded× coded_ℕ coded_ℕ)) (coded× coded_ℕ coded_ℕ)))
    (λ t. (t.view, (t.out, (t.from, t.copied)))) (λ p. record { view = p.0; out = p.1.0; from = p.1.1.0; copied = p.1.1.1 }) (λ _. refl)

-- the seat has this view, no slot, and has copied nothing
abbrev pub IsIdle : Me ℕ Token → View → Type 0
IsIdle me v = me ≡ (idle v, [])

-- word k is a cell of the ring
abbrev pub IsCell : Ring → ℕ → Type 0
IsCell r k = (r.base + 3 ≤ k) × (k < r.base + 3 + r.size)

-- word k is one of its counts or its flag
abbrev pub IsCount : Ring → ℕ → Type 0
IsCount r k = (r.base ≤ k) × (k < r.base + 3)

-- the token's word k lies in its slot
abbrev pub InSlot : View → ℕ → Type 0
InSlot (Own m olds) k = Has m k
InSlot (Frozen m) k = ⊥
InSlot (Sender s told) k = IsCell s.ring k
InSlot (Receiver q told) k = IsCell q.ring k
InSlot (Done m s q) k = IsCell s.ring k
InSlot Spent k = ⊥

-- the token's word k lies in the table's word
abbrev pub InWord : View → ℕ → Type 0
InWord (Own m olds) k = ⊥
InWord (Frozen m) k = Has m k
InWord (Sender s told) k = IsCount s.ring k
InWord (Receiver q told) k = IsCount q.ring k
InWord (Done m s q) k = IsCount s.ring k
InWord Spent k = ⊥

-- the token may take slot k out
abbrev pub MayTake : View → ℕ → Type 0
MayTake (Own m olds) k = Has m k
MayTake (Frozen m) k = ⊥
MayTake (Sender s told) k = (n : ℕ) × (k ≡ place_of s.ring n) × (length s.put ≤ n) × (n < s.room + s.ring.size)
MayTake (Receiver q told) k = (n : ℕ) × (k ≡ place_of q.ring n) × (length q.taken ≤ n) × (n < q.avail)
MayTake (Done m s q) k = Has m k
MayTake Spent k = ⊥

-- the token is the only one that holds word k, so it may copy it
abbrev pub Sole : View → ℕ → Type 0
Sole (Own m olds) k = Has m k
Sole (Done m s q) k = Has m k
Sole v k = ⊥

-- an owner has copied x to the table's word k, joined ends to slot k
abbrev pub Copied : View → List ℕ → List (mathlib.Core.Option.Option ℕ) → ℕ → ℕ → Type 0
Copied (Own m olds) table homes k x = get_elem? table k ≡ some x
Copied (Done m s q) table homes k x = get_elem? homes k ≡ some (some x)
Copied v table homes k x = Unit {0}

-- a token may take the slot, and found there the region's word, if that lies there
abbrev pub MayHave : List ℕ → View → ℕ × ℕ → Type 0
MayHave words v p = MayTake v p.0 × (InSlot v p.0 → get_elem? words p.0 ≡ some p.1)

-- it may take the slots that it has taken out
abbrev pub IsOut : List ℕ → Token → Type 0
IsOut words t = AllByRecursion (MayHave words t.view) t.out

-- what it has copied are the region's words
abbrev pub IsCopied : List ℕ → List ℕ → List (mathlib.Core.Option.Option ℕ) → Token → Type 0
IsCopied words table homes t = (k : ℕ) → t.from ≤ k → k < t.from + t.copied → Sole t.view k × ((x : ℕ) → get_elem? words k ≡ some x → Copied t.view table homes k x)

-- slot k is none of these
abbrev pub Clear : List (ℕ × ℕ) → ℕ → Type 0
Clear out k = AllByRecursion (λ (p : ℕ × ℕ). p.0 ≢ k) out

-- nobody has taken slot k out
abbrev pub Nobody : List Token → ℕ → Type 0
Nobody tokens k = (i : ℕ) (t : Token) → get_elem? tokens i ≡ some t → Clear t.out k

-- the region's words, which appear only in the proofs, lie in the table where their tokens look for them
pub record Placed (count : ℕ) (words : List ℕ) (s : State ℕ Token) : Type 0 where
  pub counted : length s.words ≡ count
  pub outs : (i : ℕ) (t : Token) → get_elem? s.views i ≡ some t → IsOut words t
  pub copies : (i : ℕ) (t : Token) → get_elem? s.views i ≡ some t → IsCopied words s.words s.homes t
  pub filled : (k : ℕ) → k < count → Nobody s.views k → (x : ℕ) × (get_elem? s.homes k ≡ some (some x))
  pub at_home : (i : ℕ) (t : Token) (k x : ℕ) → get_elem? s.views i ≡ some t → InSlot t.view k → Nobody s.views k → get_elem? words k ≡ some x → get_elem? s.homes k ≡ some (some x)
  pub in_word : (i : ℕ) (t : Token) (k x : ℕ) → get_elem? s.views i ≡ some t → InWord t.view k → get_elem? words k ≡ some x → get_elem? s.words k ≡ some x

-- the views of the tokens
abbrev pub views_of : List Token → List View
views_of tokens = map (λ (t : Token). t.view) tokens

-- what the rule says of a table of the given number of words and slots
abbrev pub Ruled : ℕ → State ℕ Token → Type 0
Ruled count s = (words : List ℕ) × Reached count words (views_of s.views) × Placed count words s

-- the place and the value of the slot that a seat took last
abbrev pub front_place : List (ℕ × ℕ) → ℕ
front_place [] = 0
front_place (c ∷ cs) = c.0

-- its value
abbrev pub front_value : List (ℕ × ℕ) → ℕ
front_value [] = 0
front_value (c ∷ cs) = c.1

-- the values of all slots that it has
abbrev pub values : List (ℕ × ℕ) → List ℕ
values slots = map (λ (c : ℕ × ℕ). c.1) slots
