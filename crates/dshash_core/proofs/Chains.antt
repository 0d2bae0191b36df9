-- Words in a row, and chains.
use Rattle.std.proofs.Common.{◌≡◌, ◌≢◌, ℕ, zero, suc, ◌+◌, ◌<◌, ◌≤◌, ◌⊎◌, inl, inr, Bool, true, false, ◌==◌, cond, List, [], ◌∷◌, length, get_or, Option, Some, unwrap_or, is_some, IsSome, refl, sym, ap, subst, ◌∙◌, arith, ⊎_elim, eq-eqb, ne_eqb}
use Rattle.std.proofs.lemmas.Grind.{same_number_lists}
use Rattle.std.specs.FinMap as fin
use mathlib.Core.Logic.{dite}
use native.Mathlib.Decide.{ℕ_discrete}
use Rattle.word_map.specs.WordMap.{WordMap, at}
use Rattle.word_map.proofs.Maps.{at-insert_same, at-insert_other, same_answers, insert-keys}
use Rattle.region_words.specs.Parts.{Owned, owned}
use Rattle.dshash_core.specs.Chains.{word, words_at, places, IsChain, Among, item_at}

-- numbers are equal or not
pub same_or_not : (a b : ℕ) → (a ≡ b) ⊎ (a ≢ b)
same_or_not a b = dite (ℕ_discrete a b) (λ e. inl e) (λ n. inr n)

pub words_at-same : (w v : ℕ → ℕ) (a n : ℕ) → ((k : ℕ) → a ≤ k → k < a + n → w k ≡ v k) → words_at w a n ≡ words_at v a n
words_at-same w v a zero h = refl
words_at-same w v a (suc n) h = λ i. h a (omega arith) (omega arith) i ∷ words_at-same w v (suc a) n (λ k low high. h k (omega arith) (omega arith)) i

pub length-words_at : (w : ℕ → ℕ) (a n : ℕ) → length (words_at w a n) ≡ n
length-words_at w a zero = refl
length-words_at w a (suc n) = ap suc (length-words_at w (suc a) n)

pub words_at-get : (w : ℕ → ℕ) (a n k : ℕ) → k < n → get_or (words_at w a n) k 0 ≡ w (a + k)
words_at-get w a zero k h = absurd (omega arith)
words_at-get w a (suc n) zero h = ap w (let e : a ≡ a + 0 = omega arith in e)
words_at-get w a (suc n) (suc k) h = words_at-get w (suc a) n k (omega arith) ∙ ap w (let e : suc a + k ≡ a + suc k = omega arith in e)

-- words in a row are those of a list where each is
pub words_are : (w : ℕ → ℕ) (a : ℕ) (xs : List ℕ) → ((k : ℕ) → k < length xs → w (a + k) ≡ get_or xs k 0) → words_at w a (length xs) ≡ xs
words_are w a xs h = same_number_lists (words_at w a (length xs)) xs (length-words_at w a (length xs)) (λ k l.
    let b : k < length xs = omega (arith, length-words_at w a (length xs)) in
    words_at-get w a (length xs) k b ∙ h k b)

-- and where one is not, they are not
pub words_differ : (w : ℕ → ℕ) (a : ℕ) (xs : List ℕ) (k : ℕ) → k < length xs → w (a + k) ≢ get_or xs k 0 → words_at w a (length xs) ≢ xs
words_differ w a xs k l n e = n (sym (words_at-get w a (length xs) k l) ∙ ap (λ (ys : List ℕ). get_or ys k 0) e)

pub word_is : (m : WordMap) (k x : ℕ) → at m k ≡ Some x → word m k ≡ x
word_is m k x e = ap (λ (o : Option ℕ). unwrap_or o 0) e

pub word_same : (m : WordMap) (k x q : ℕ) → q ≡ k → word (fin.insert m k x) q ≡ x
word_same m k x q e = word_is (fin.insert m k x) q x (at-insert_same m k x q e)

pub word_other : (m : WordMap) (k x q : ℕ) → q ≢ k → word (fin.insert m k x) q ≡ word m q
word_other m k x q n = ap (λ (o : Option ℕ). unwrap_or o 0) (at-insert_other m k x q n)

-- to put a word where it stands already changes nothing
pub insert_same : (m : WordMap) (k x : ℕ) → at m k ≡ Some x → fin.insert m k x ≡ m
insert_same m k x e = same_answers (fin.insert m k x) m (λ q. ⊎_elim
    (λ (s : q ≡ k). at-insert_same m k x q s ∙ sym (ap (at m) s ∙ e))
    (λ (n : q ≢ k). at-insert_other m k x q n)
    (same_or_not q k))

-- the places that a link leads to are those of its chain
pub places_is : (w : ℕ → ℕ) (n link : ℕ) (xs : List ℕ) → IsChain w link xs → length xs ≤ n → places w n link ≡ xs
places_is w zero link [] c s = refl
places_is w zero link (x ∷ xs) c s = absurd (omega arith)
places_is w (suc n) link [] c s = ap (λ (b : Bool). cond b [] (link ∷ places w n (w link))) (eq-eqb link 0 c)
places_is w (suc n) link (x ∷ xs) c s =
    let there : link ≢ 0 = λ e. let z : 0 < x = c.1 in let l : link ≡ x = c.0 in absurd (omega arith) in
    ap (λ (b : Bool). cond b [] (link ∷ places w n (w link))) (ne_eqb link 0 there)
    ∙ (λ i. c.0 i ∷ places w n (w (c.0 i)))
    ∙ ap (λ (ys : List ℕ). x ∷ ys) (places_is w n (w x) xs c.2 (omega arith))

pub length-places : (w : ℕ → ℕ) (n link : ℕ) → length (places w n link) ≤ n
length-places w zero link = omega arith
length-places w (suc n) link = go (link == 0) (length-places w n (w link))
  where
    go : (b : Bool) → length (places w n (w link)) ≤ n → length (cond b [] (link ∷ places w n (w link))) ≤ suc n
    go true h = omega arith
    go false h = omega arith

-- a chain is one of the words that its links are
pub chain_same : (w v : ℕ → ℕ) (link : ℕ) (xs : List ℕ) → IsChain w link xs → ((a : ℕ) → Among a xs → v a ≡ w a) → IsChain v link xs
chain_same w v link [] c h = c
chain_same w v link (x ∷ xs) c h =
    (c.0, c.1, subst (λ (l : ℕ). IsChain v l xs) (sym (h x (inl refl))) (chain_same w v (w x) xs c.2 (λ a m. h a (inr m))))

-- the words from a on are stored, as far as i of them, and no other word has changed
pub record Stored (old new : Owned) (a i : ℕ) (xs : List ℕ) : Type 0 where
  pub region : new.region ≡ old.region
  pub keys : (k : ℕ) → is_some (at new.words k) ≡ is_some (at old.words k)
  pub stored : (k : ℕ) → k < i → word new.words (a + k) ≡ get_or xs k 0
  pub below : (k : ℕ) → k < a → word new.words k ≡ word old.words k
  pub behind : (k : ℕ) → a + i ≤ k → word new.words k ≡ word old.words k

pub stored_next : (old p : Owned) (a i : ℕ) (xs : List ℕ) → Stored old p a i xs → IsSome (at p.words (a + i)) → Stored old (owned p.region (fin.insert p.words (a + i) (get_or xs i 0))) a (i + 1) xs
stored_next old p a i xs s has = record {
  region = s.region;
  keys = λ k. insert-keys p.words (a + i) (get_or xs i 0) k has ∙ s.keys k;
  stored = λ k h. ⊎_elim
      (λ (e : k ≡ i). word_same p.words (a + i) (get_or xs i 0) (a + k) (ap (λ (j : ℕ). a + j) e) ∙ ap (λ (j : ℕ). get_or xs j 0) (sym e))
      (λ (n : k ≢ i). word_other p.words (a + i) (get_or xs i 0) (a + k) (λ e. n (omega arith)) ∙ s.stored k (omega arith))
      (same_or_not k i);
  below = λ k h. word_other p.words (a + i) (get_or xs i 0) k (λ e. omega arith) ∙ s.below k h;
  behind = λ k h. word_other p.words (a + i) (get_or xs i 0) k (λ e. omega arith) ∙ s.behind k (omega arith);
}

-- an item that was written word by word
pub filled : (p0 p1 p2 p3 : WordMap) (a hash : ℕ) (key value : List ℕ) → p1 ≡ fin.insert p0 (a + 1) hash
    → ((k : ℕ) → k < a + 2 → word p2 k ≡ word p1 k) → words_at (word p2) (a + 2) (length key) ≡ key
    → ((k : ℕ) → k < a + 2 + length key → word p3 k ≡ word p2 k) → words_at (word p3) (a + 2 + length key) (length value) ≡ value
    → (item_at (word p3) (length key) (length value) a ≡ record { at = a; key = key; value = value }) × (word p3 (a + 1) ≡ hash)
filled p0 p1 p2 p3 a hash key value first below key_is below2 value_is =
    let same : words_at (word p3) (a + 2) (length key) ≡ key = words_at-same (word p3) (word p2) (a + 2) (length key) (λ k low high. below2 k high) ∙ key_is in (
      (λ i. record { at = a; key = same i; value = value_is i }),
      below2 (a + 1) (omega arith) ∙ below (a + 1) (omega arith) ∙ ap (λ (m : WordMap). word m (a + 1)) first ∙ word_same p0 (a + 1) hash (a + 1) refl,
    )
