-- How many keys of a map are in one bucket, and when a call would crowd it.
use Rattle.std.proofs.Common.{◌≡◌, ◌≢◌, ℕ, zero, suc, ◌+◌, ◌<◌, ◌≤◌, ◌==◌, ◌↔◌, IsTrue, inl, inr, Bool, true, false, not, ◌&&◌, cond, List, [], ◌∷◌, ◌++◌, filter, length, get_or, Option, Some, None, is_some, nat_lt, refl, sym, ap, subst, ◌∙◌, arith, append-nil}
use Rattle.std.proofs.lemmas.List.Elements.{filter-append}
use Rattle.std.proofs.lemmas.Bool.{eq-eqb, eqb-true}
use Rattle.std.specs.FinMap as fin
use Rattle.dshash_core.specs.Key.{seeded_hash}
use Rattle.dshash_core.specs.Chains.{Among, Item}
use Rattle.dshash_core.specs.Hung.{Hung, chain_of, HasItem, HasNoItem}
use Rattle.dshash_core.specs.Cells.{KeyMap, bucket_of, full_above, all_items, cells_of, AreCells}
use Rattle.dshash_core.specs.Outcome.{would_insert, is_full, keys_in, next_of, IsCrowded}
use Rattle.dshash_core.proofs.Flats.{all_in, nowhere, cells_len, cells_missing, spot_get}
use Rattle.dshash_core.proofs.Maps.{kept_len}

all_pass : (q : Item → Bool) (xs : List Item) → ((x : Item) → Among x xs → q x ≡ true) → filter q xs ≡ xs
all_pass q [] h = refl
all_pass q (x ∷ xs) h = ap (λ (b : Bool). cond {A = List Item} b (x ∷ filter q xs) (filter q xs)) (h x (inl refl)) ∙ ap (λ (l : List Item). x ∷ l) (all_pass q xs (λ y m. h y (inr m)))

none_pass : (q : Item → Bool) (xs : List Item) → ((x : Item) → Among x xs → q x ≡ false) → filter q xs ≡ []
none_pass q [] h = refl
none_pass q (x ∷ xs) h = ap (λ (b : Bool). cond {A = List Item} b (x ∷ filter q xs) (filter q xs)) (h x (inl refl)) ∙ none_pass q xs (λ y m. h y (inr m))

differ : (a b : ℕ) → a ≢ b → (a == b) ≡ false
differ a b n = by (a == b) refl
  where
    by : (c : Bool) → (a == b) ≡ c → (a == b) ≡ false
    by true e = absurd (n (eqb-true a b e))
    by false e = e

-- where the items of each chain have its number, counted from `from`, those with the number n are one chain
numbered : (b : Item → ℕ) (chains : List (List Item)) (from : ℕ) → ((j : ℕ) (it : Item) → j < length chains → Among it (get_or chains j []) → b it ≡ from + j)
    → (i n : ℕ) → n ≡ from + i → i < length chains → filter (λ (it : Item). b it == n) (all_items chains) ≡ get_or chains i []
numbered b [] from placed i n is l = absurd (omega arith)
numbered b (c ∷ cs) from placed zero n is l =
    filter-append (λ (it : Item). b it == n) c (all_items cs)
    ∙ ap (λ (x : List Item). x ++ filter (λ (it : Item). b it == n) (all_items cs))
    (all_pass (λ (it : Item). b it == n) c (λ x m. let e : b x ≡ from + 0 = placed 0 x l m in eq-eqb (b x) n (omega (arith, e, is))))
    ∙ ap (λ (x : List Item). c ++ x)
    (none_pass (λ (it : Item). b it == n) (all_items cs) (λ x m.
    let r = all_in cs x m in
    let below : r.0 < length cs = r.1 in
    let e : b x ≡ from + suc r.0 = placed (suc r.0) x (omega arith) r.2 in
    differ (b x) n (λ (s : b x ≡ n). absurd (omega (arith, s, e, is)))))
    ∙ append-nil c
numbered b (c ∷ cs) from placed (suc i) n is l =
    filter-append (λ (it : Item). b it == n) c (all_items cs)
    ∙ ap (λ (x : List Item). x ++ filter (λ (it : Item). b it == n) (all_items cs))
    (none_pass (λ (it : Item). b it == n) c (λ x m.
    let some : 0 < length (c ∷ cs) = omega arith in
    let e : b x ≡ from + 0 = placed 0 x some m in
    differ (b x) n (λ (s : b x ≡ n). absurd (omega (arith, s, e, is)))))
    ∙ numbered b cs (suc from)
    (λ j it few m. let e : b it ≡ from + suc j = placed (suc j) it (omega arith) m in omega (arith, e))
    i n (omega (arith, is)) (omega arith)

module _ {S C R : Type 0} (step : Option S → C → Option S × R) (decoded : List ℕ → S) (size count value_words : ℕ) (h : Hung) (k : AreCells size count value_words h) (i : ℕ) (l : i < length h.chains) where
  abbrev before : KeyMap S
  before = cells_of decoded h.chains

  -- the keys of a bucket are the items of its chain
  pub chain_keys : keys_in h.layout.seed before size i ≡ length (chain_of h i)
  chain_keys =
      kept_len decoded (λ q. bucket_of size (seeded_hash h.layout.seed q) == i) (all_items h.chains) k.keyed
      ∙ ap (λ (x : List Item). length x) (numbered (λ it. bucket_of size (seeded_hash h.layout.seed it.key)) h.chains 0 (λ j it few m. let z : j ≡ 0 + j = omega arith in k.placed j it few m ∙ z) i i (omega arith) l)

  module _ (key : List ℕ) (call : C) (longest : ℕ) (own : i ≡ bucket_of size (seeded_hash h.layout.seed key)) where
    beside : keys_in h.layout.seed before size (bucket_of size (seeded_hash h.layout.seed key)) ≡ length (chain_of h i)
    beside = ap (keys_in h.layout.seed before size) (sym own) ∙ chain_keys

    -- a chain with fewer items isn't crowded
    pub short_chain : (longest ≤ length (chain_of h i) → ⊥) → IsCrowded step h.layout.seed size before key call longest → ⊥
    short_chain few c = few (subst (λ (n : ℕ). longest ≤ n) beside c.long)

    -- and none is by a key that is there
    pub key_there : (link place : ℕ) → HasItem h i link place key → IsCrowded step h.layout.seed size before key call longest → ⊥
    key_there link place item c =
        let found : fin.get before key ≡ Some (decoded item.0.value) = subst (λ (q : List ℕ). fin.get before q ≡ Some (decoded item.0.value)) item.3 (spot_get size count value_words h k i l link item.0 item.1 decoded) in
        let no : would_insert before key (next_of step before key call) ≡ false = ap (λ (g : Option S). not (is_some g) && is_some (next_of step before key call)) found in
        let n : false ≡ true = sym no ∙ c.inserts in
        cc

    -- by one that isn't there it is exactly if the call makes a state and the partition isn't full
    module _ (none : HasNoItem h i key) where
      missing : fin.get before key ≡ None
      missing = cells_missing size count value_words h k decoded key (nowhere size count value_words h k i key own none)

      makes : would_insert before key (next_of step before key call) ≡ is_some (step None call).0
      makes = ap (λ (g : Option S). not (is_some g) && is_some (step g call).0) missing

      full_is : is_full before size ≡ (nat_lt (full_above size) count && nat_lt size 20)
      full_is = ap (λ (n : ℕ). nat_lt (full_above size) n && nat_lt size 20) (cells_len size count value_words h k decoded)

      pub crowded_as : (b : Bool) → b ≡ (is_some (step None call).0 && not (nat_lt (full_above size) count && nat_lt size 20)) → longest ≤ length (chain_of h i)
          → IsTrue b ↔ IsCrowded step h.layout.seed size before key call longest
      crowded_as b e long = (
        λ t. by (is_some (step None call).0) (nat_lt (full_above size) count && nat_lt size 20) refl refl (sym e ∙ t),
        λ c. e ∙ (λ t. (sym makes ∙ c.inserts) t && not ((sym full_is ∙ c.room) t)),
      )
        where
          by : (made full : Bool) → is_some (step None call).0 ≡ made → (nat_lt (full_above size) count && nat_lt size 20) ≡ full → (made && not full) ≡ true → IsCrowded step h.layout.seed size before key call longest
          by true false m f t = record { inserts = makes ∙ m; room = full_is ∙ f; long = subst (λ (n : ℕ). longest ≤ n) (sym beside) long }
          by true true m f t = cc
          by false full m f t = cc
