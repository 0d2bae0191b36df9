-- Run words that are all 0 but the first.
use Rattle.std.proofs.Common.{◌≡◌, ◌≢◌, ℕ, zero, suc, ◌+◌, ◌*◌, ◌%◌, ◌<◌, ◌≤◌, [], IsSome, refl, sym, ap, subst, ◌∙◌, arith}
use mathlib.Core.Logic.{dite}
use native.Mathlib.Decide.{ℕ_discrete}
use Rattle.free_pages.specs.Runs.{IsLaid, IsHead, IsRuns, granted_of, granted_in, run_word}
use Rattle.word_map.specs.WordMap.{WordMap, at}
use Rattle.std.specs.FinMap as fin
use Rattle.free_pages.proofs.Stores.{owns_after, word_here, word_else}
use Rattle.free_pages.proofs.Lists.{emit_none}

pub blank_laid : (v : ℕ → ℕ) (pages : ℕ) → 0 < pages → v 0 ≡ 4 * pages → ((k : ℕ) → 0 < k → k < pages → v k ≡ 0) → IsLaid v pages
blank_laid v pages some e zeros = record {
  begins = λ h. omega arith;
  heads = λ p b c. dite (ℕ_discrete p 0)
      (λ (s : p ≡ 0). subst (λ (z : ℕ). IsHead v pages z) (sym s) (record {
        long = omega arith;
        kind = omega arith;
        inside = omega arith;
        zeros = λ k x y. zeros k x (omega arith);
        next = λ x. absurd (omega arith);
      }))
      (λ (n : p ≢ 0). absurd (let z = zeros p (omega arith) b in omega arith));
}

pub blank_list : (n p : ℕ) (v : ℕ → ℕ) → ((k : ℕ) → p ≤ k → k < p + n → v k % 4 ≡ 0) → granted_of v p n ≡ []
blank_list zero p v h = refl
blank_list (suc n) p v h = emit_none p (v p) (granted_of v (suc p) n) (h p (omega arith) (omega arith)) ∙ blank_list n (suc p) v (λ k a b. h k (omega arith) (omega arith))

pub zeros_on : (m : WordMap) (heads p : ℕ) → ((k : ℕ) → k < p → run_word m heads k ≡ 0) → (k : ℕ) → k < p + 1 → run_word (fin.insert m (heads + p) 0) heads k ≡ 0
zeros_on m heads p h k b = dite (ℕ_discrete k p)
    (λ (e : k ≡ p). word_here m heads p 0 k e)
    (λ (n : k ≢ p). word_else m heads p 0 k n ∙ h k (omega arith))

pub blank_one : (m : WordMap) (heads pages : ℕ) → 0 < pages → ((p : ℕ) → p < pages → IsSome (at m (heads + p))) → ((k : ℕ) → k < pages → run_word m heads k ≡ 0)
    → IsRuns (fin.insert m heads (4 * pages)) heads pages × (granted_in (fin.insert m heads (4 * pages)) heads pages ≡ [])
blank_one m heads pages some owns zeros =
    subst (λ (z : ℕ). IsRuns (fin.insert m z (4 * pages)) heads pages × (granted_in (fin.insert m z (4 * pages)) heads pages ≡ [])) (let z : heads + 0 ≡ heads = omega arith in z)
    (
    let m2 = fin.insert m (heads + 0) (4 * pages) in
    let first : run_word m2 heads 0 ≡ 4 * pages = word_here m heads 0 (4 * pages) 0 refl in
    let others : (k : ℕ) → 0 < k → k < pages → run_word m2 heads k ≡ 0 = λ k a b. word_else m heads 0 (4 * pages) k (λ e. omega arith) ∙ zeros k b in (
      record { owns = λ p h. owns_after m (heads + 0) (4 * pages) (heads + p) (owns p h); laid = blank_laid (run_word m2 heads) pages some first others },
      blank_list pages 0 (run_word m2 heads) (λ k a b. dite (ℕ_discrete k 0)
          (λ (e : k ≡ 0). ap (λ (z : ℕ). run_word m2 heads z % 4) e ∙ four (run_word m2 heads 0) pages first)
          (λ (n : k ≢ 0). ap (λ (z : ℕ). z % 4) (others k (omega arith) (omega arith)))),
    )
    )
  where
    four : (y b : ℕ) → y ≡ 4 * b → y % 4 ≡ 0
    four y b f = omega arith
