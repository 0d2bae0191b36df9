-- The words of a map in a row, as a list.
use Rattle.std.proofs.Common.{◌≡◌, ◌<◌, ◌≤◌, ◌+◌, ◌/◌, ◌∙◌, ◌∷◌, ◌++◌, [], ℕ, zero, suc, true, Some, IsSome, ap, arith, is_some, map, refl, subst, unwrap_or}
use Rattle.std.proofs.lemmas.Bool.Decides.{nat_tests}
use Rattle.std.specs.List.{range_with_len}
use Rattle.shm_toc.specs.Table.{word_of}
use Rattle.plan_descriptor.specs.Descriptor.{descriptor_in, size_of}
use Rattle.word_map.specs.WordMap.{HasJust, WordMap, at, union, values_from}
use Rattle.word_map.proofs.Maps.{at-union_cond, just_has}

-- one word more
pub values_from-more : (m : WordMap) (k n : ℕ) → values_from m k (suc n) ≡ values_from m k n ++ word_of m (k + n) ∷ []
values_from-more m k zero =
    let same : k ≡ k + 0 = omega arith in
    ap (λ j. word_of m j ∷ []) same
values_from-more m k (suc n) =
    let same : suc k + n ≡ k + suc n = omega arith in
    ap (λ l. word_of m k ∷ l) (values_from-more m (suc k) n ∙ ap (λ j. values_from m (suc k) n ++ word_of m j ∷ []) same)

-- words whose values are known by their numbers
values_from-at : (m : WordMap) (f : ℕ → ℕ) (k a n : ℕ) → ((i : ℕ) → a ≤ i → i < a + n → at m (k + i) ≡ Some (f i)) → values_from m (k + a) n ≡ map f (range_with_len a n)
values_from-at m f k a zero known = refl
values_from-at m f k a (suc n) known =
    let next : suc (k + a) ≡ k + (a + 1) = omega arith in
    let head = ap (λ o. unwrap_or o 0) (known a (omega arith) (omega arith)) in
    ap (λ x. x ∷ values_from m (suc (k + a)) n) head
    ∙ ap (λ j. f a ∷ values_from m j n) next
    ∙ ap (λ l. f a ∷ l) (values_from-at m f k (a + 1) n (λ i low high. known i (omega arith) (omega arith)))

pub values_from-is : (m : WordMap) (f : ℕ → ℕ) (k n : ℕ) → ((i : ℕ) → i < n → at m (k + i) ≡ Some (f i)) → values_from m k n ≡ map f (range_with_len 0 n)
values_from-is m f k n known =
    let same : k ≡ k + 0 = omega arith in
    ap (λ j. values_from m j n) same ∙ values_from-at m f k 0 n (λ i low high. known i (omega arith))

-- maps that agree on the words
values_from-same : (m m' : WordMap) (k n : ℕ) → ((i : ℕ) → i < n → at m (k + i) ≡ at m' (k + i)) → values_from m k n ≡ values_from m' k n
values_from-same m m' k zero same = refl
values_from-same m m' k (suc n) same =
    let here : k + 0 ≡ k = omega arith in
    let head : word_of m k ≡ word_of m' k = ap (λ o. unwrap_or o 0) (rw here at (same 0 (omega arith))) in
    ap (λ x. x ∷ values_from m (suc k) n) head
    ∙ ap (λ l. word_of m' k ∷ l) (values_from-same m m' (suc k) n (λ i h. let next : k + suc i ≡ suc k + i = omega arith in rw next at (same (suc i) (omega arith))))

pub size_few : (version : ℕ) → size_of version ≤ 32
size_few version = grind (arith, nat_tests)

-- a chunk of 32 words that is joined to others
module _ (m n : WordMap) (place : ℕ) (just : HasJust n place 32) where
  there : (i : ℕ) → i < 32 → at (union m n) (place + i) ≡ at n (place + i)
  there i h =
      let has : is_some (at n (place + i)) ≡ true = just_has n place 32 (place + i) just (omega arith) (omega arith) in
      at-union_cond m n (place + i) ∙ rw has refl

  pub has_chunk : (i : ℕ) → i < 32 → IsSome (at (union m n) (place + i))
  has_chunk i h = rw (there i h) (just_has n place 32 (place + i) just (omega arith) (omega arith))

  pub descriptor_in-union : descriptor_in (union m n) place ≡ descriptor_in n place
  descriptor_in-union =
      let here : place + 0 ≡ place = omega arith in
      let first : word_of (union m n) place ≡ word_of n place = ap (λ o. unwrap_or o 0) (rw here at (there 0 (omega arith))) in
      ap (λ w. values_from (union m n) place (size_of w)) first
      ∙ values_from-same (union m n) n place (size_of (word_of n place)) (λ i h. there i (omega (arith, size_few (word_of n place))))

-- a chunk that was kept by a table, at the place that was looked up
module _ (all m n : WordMap) (place found bytes : ℕ) (kept : all ≡ union m n) (just : HasJust n place (bytes / 8)) (size : bytes ≡ 256) (same : found ≡ place) where
  whole : HasJust n place 32
  whole = subst (λ b. HasJust n place (b / 8)) size just

  pub kept_words : (k : ℕ) → k < size_of (word_of all found) → IsSome (at all (found + k))
  kept_words k h = rw (kept, same) (has_chunk m n place whole k (omega (arith, h, size_few (word_of all found))))

  pub kept_descriptor : descriptor_in all found ≡ descriptor_in n place
  kept_descriptor = rw (kept, same) (descriptor_in-union m n place whole)
