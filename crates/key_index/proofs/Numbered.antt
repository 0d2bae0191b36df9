-- Entries that are sorted by their numbers, and by their keys where these are equal, are sorted by their keys.
use Rattle.std.proofs.Common.{◌≡◌, ◌<◌, ◌≤◌, ◌+◌, ◌∙◌, ◌∷◌, ◌⊎◌, [], ℕ, List, inl, inr, ap, ap₂, arith, get_or, length, map, sym}
use Rattle.std.proofs.lemmas.Bool.{cases_lt}
use Rattle.std.proofs.lemmas.List.{get_or-map, get_or_past, length-map}
use Rattle.std.proofs.lemmas.List.Sorted.{All-permutation}
use Rattle.std.specs.List.Sorted.{IsPermutation, IsSorted, IsSortedBy}
use Rattle.std.specs.Ordering.{is_lt, nat_cmp, ordering_then}
use Rattle.key_index.specs.Front.{IsFrontOf}
use Rattle.key_index.specs.Keys.{key_at, key_cmp}
use Rattle.key_index.specs.Order.{AreNumbered, IsNumbered, key_of}
use Rattle.key_index.specs.declared.order.Entry.{Entry}
use Rattle.key_index.proofs.Front.{IsBehind, by_front}

-- what entries are sorted by: the number, and then the key
abbrev pub numbered_key : List (List ℕ) → Entry → List ℕ
numbered_key keys entry = entry.bytes ∷ key_of keys entry

behind : (front : List ℕ) (keys : List (List ℕ)) → ((k : ℕ) (d : List ℕ) → k < length keys → IsFrontOf front (get_or keys k d)) → (place : ℕ) → IsBehind front (key_at keys place)
behind front keys alike place = by (cases_lt place (length keys))
  where
    by : (place < length keys) ⊎ (length keys ≤ place) → IsBehind front (key_at keys place)
    by (inl lt) = inl (alike place [] lt)
    by (inr le) = inr (get_or_past keys place [] le)

same_order : (keys : List (List ℕ)) (front : List ℕ) → ((k : ℕ) (d : List ℕ) → k < length keys → IsFrontOf front (get_or keys k d)) → (a b : Entry)
    → IsNumbered keys (length front) a → IsNumbered keys (length front) b → key_cmp (key_of keys a) (key_of keys b) ≡ key_cmp (numbered_key keys a) (numbered_key keys b)
same_order keys front alike a b x y =
    sym (by_front 16 front (key_of keys a) (key_of keys b) (behind front keys alike a.place) (behind front keys alike b.place) x.bytes y.bytes)
    ∙ ap₂ (λ p q. ordering_then (nat_cmp p q) (key_cmp (key_of keys a) (key_of keys b))) (sym x.number) (sym y.number)

pub sorted_keys : (keys : List (List ℕ)) (first entries : List Entry) → AreNumbered keys first → IsPermutation first entries
    → IsSortedBy (λ a b. is_lt (key_cmp (numbered_key keys a) (numbered_key keys b))) entries → IsSorted key_cmp (map (key_of keys) entries)
sorted_keys keys first entries numbered moved sorted = λ k d low lt.
    let long : length (map (key_of keys) entries) ≡ length entries = length-map entries (key_of keys) in
    let each = All-permutation (IsNumbered keys (length numbered.front)) first entries moved numbered.each in
    let none : Entry = record { bytes = 0; place = 0 } in
    let a : Entry = get_or entries (k + 1) none in
    let b : Entry = get_or entries k none in
    ap₂ (λ x y. is_lt (key_cmp x y)) (get_or-map (key_of keys) entries (k + 1) none d (omega (arith, lt, long))) (get_or-map (key_of keys) entries k none d (omega (arith, lt, long)))
    ∙ ap is_lt (same_order keys numbered.front numbered.alike a b (each (k + 1) none (omega (arith, lt, long))) (each k none (omega (arith, lt, long))))
    ∙ sorted k none (omega arith) (omega (arith, lt, long))
