-- The page in a chunk's words.
use Rattle.std.proofs.Common.{◌≡◌, ℕ, zero, suc, ◌<◌, ◌≤◌, List, [], ◌∷◌, length, get_or, refl, ap, arith}
use Rattle.dshash_core.specs.Chains.{words_at}
use Rattle.page_cache.specs.Pages.{first_words}

-- the first of a longer row of words
pub first_at : (w : ℕ → ℕ) (a n m : ℕ) → n ≤ m → first_words n (words_at w a m) ≡ words_at w a n
first_at w a zero m few = refl
first_at w a (suc n) zero few = absurd (omega arith)
first_at w a (suc n) (suc m) few = ap (λ (rest : List ℕ). w a ∷ rest) (first_at w (suc a) n m (omega arith))

-- after the end of a row
pub past_end : (w : ℕ → ℕ) (a n k : ℕ) → n ≤ k → get_or (words_at w a n) k 0 ≡ 0
past_end w a zero k h = refl
past_end w a (suc n) zero h = absurd (omega arith)
past_end w a (suc n) (suc k) h = past_end w (suc a) n k (omega arith)

-- words that are the same, one by one
pub first_is : (xs words : List ℕ) → ((k : ℕ) → k < length xs → get_or xs k 0 ≡ get_or words k 0) → xs ≡ first_words (length xs) words
first_is [] words h = refl
first_is (x ∷ xs) [] h = λ i. h 0 (omega arith) i ∷ first_is xs [] (λ k low. h (suc k) (omega arith)) i
first_is (x ∷ xs) (y ∷ words) h = λ i. h 0 (omega arith) i ∷ first_is xs words (λ k low. h (suc k) (omega arith)) i
