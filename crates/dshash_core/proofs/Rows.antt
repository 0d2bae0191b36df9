-- The lists of the buckets' items, and the items that words stand for.
use Rattle.std.proofs.Common.{◌≡◌, ◌≢◌, ℕ, zero, suc, ◌+◌, ◌<◌, ◌≤◌, inl, inr, List, [], ◌∷◌, ◌++◌, map, length, get_or, set, refl, sym, ap, ◌∙◌, arith}
use Rattle.dshash_core.specs.Chains.{words_at, Among, Item, item_at, each_below, ats}
use Rattle.dshash_core.proofs.Chains.{words_at-same}

pub length-each_below : {A : Type 0} (f : ℕ → A) (n : ℕ) → length (each_below f n) ≡ n
length-each_below f zero = refl
length-each_below f (suc n) = ap suc (length-each_below (λ i. f (suc i)) n)

pub each_below-get : {A : Type 0} (f : ℕ → A) (n i : ℕ) (d : A) → i < n → get_or (each_below f n) i d ≡ f i
each_below-get f zero i d h = absurd (omega arith)
each_below-get f (suc n) zero d h = refl
each_below-get f (suc n) (suc i) d h = each_below-get (λ j. f (suc j)) n i d (omega arith)

pub each_below-same : {A : Type 0} (f g : ℕ → A) (n : ℕ) → ((i : ℕ) → i < n → g i ≡ f i) → each_below g n ≡ each_below f n
each_below-same f g zero h = refl
each_below-same f g (suc n) h = λ i. h 0 (omega arith) i ∷ each_below-same (λ j. f (suc j)) (λ j. g (suc j)) n (λ j l. h (suc j) (omega arith)) i

-- rows that differ in one place
pub each_below-set : {A : Type 0} (f g : ℕ → A) (n i : ℕ) (x : A) → i < n → g i ≡ x → ((j : ℕ) → j < n → j ≢ i → g j ≡ f j) → each_below g n ≡ set (each_below f n) i x
each_below-set f g zero i x l e h = absurd (omega arith)
each_below-set f g (suc n) zero x l e h = λ k. e k ∷ each_below-same (λ j. f (suc j)) (λ j. g (suc j)) n (λ j m. h (suc j) (omega arith) (λ s. omega arith)) k
each_below-set f g (suc n) (suc i) x l e h = λ k. h 0 (omega arith) (λ s. omega arith) k ∷ each_below-set (λ j. f (suc j)) (λ j. g (suc j)) n i x (omega arith) e (λ j m d. h (suc j) (omega arith) (λ s. d (omega arith))) k

-- the places of items that words stand for
pub ats-map : (w : ℕ → ℕ) (k v : ℕ) (ps : List ℕ) → ats (map (item_at w k v) ps) ≡ ps
ats-map w k v [] = refl
ats-map w k v (p ∷ ps) = λ i. p ∷ ats-map w k v ps i

pub ats-append : (xs ys : List Item) → ats (xs ++ ys) ≡ ats xs ++ ats ys
ats-append [] ys = refl
ats-append (x ∷ xs) ys = λ i. x.at ∷ ats-append xs ys i

-- the words stand for each of these items
abbrev pub AreRead : (ℕ → ℕ) → ℕ → ℕ → List Item → Type 0
AreRead w k v items = (it : Item) → Among it items → item_at w k v it.at ≡ it

pub read_all : (w : ℕ → ℕ) (k v : ℕ) (items : List Item) → AreRead w k v items → map (item_at w k v) (ats items) ≡ items
read_all w k v [] h = refl
read_all w k v (it ∷ items) h = λ i. h it (inl refl) i ∷ read_all w k v items (λ x m. h x (inr m)) i

pub are_read : (w : ℕ → ℕ) (k v : ℕ) (ps : List ℕ) → AreRead w k v (map (item_at w k v) ps)
are_read w k v [] it m = absurd m
are_read w k v (p ∷ ps) it (inl e) = (λ i. item_at w k v (e i).at) ∙ sym e
are_read w k v (p ∷ ps) it (inr m) = are_read w k v ps it m

pub item_at-same : (w v : ℕ → ℕ) (key_words value_words a : ℕ) → ((k : ℕ) → a + 2 ≤ k → k < a + (2 + key_words + value_words) → v k ≡ w k) → item_at v key_words value_words a ≡ item_at w key_words value_words a
item_at-same w v n m a h =
    let key : words_at v (a + 2) n ≡ words_at w (a + 2) n = words_at-same v w (a + 2) n (λ k s e. h k s (omega arith)) in
    let value : words_at v (a + 2 + n) m ≡ words_at w (a + 2 + n) m = words_at-same v w (a + 2 + n) m (λ k s e. h k (omega arith) (omega arith)) in
    λ i. record { at = a; key = key i; value = value i }

-- an item of the list is at one of its places
pub at_among : (it : Item) (items : List Item) → Among it items → Among it.at (ats items)
at_among it [] m = m
at_among it (x ∷ items) (inl e) = inl (ap (λ (y : Item). y.at) e)
at_among it (x ∷ items) (inr m) = inr (at_among it items m)
