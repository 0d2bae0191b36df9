-- Keys that have the same words.
use Rattle.std.proofs.Common.{◌≡◌, ◌≤◌, ◌+◌, ◌*◌, ◌/◌, ◌-◌, ◌++◌, ◌∙◌, [], List, ℕ, zero, suc, ap, ap₂, arith, drop, get_or, length, sym, take}
use Rattle.std.proofs.Math.Seq.{take-add}
use Rattle.std.proofs.lemmas.List.{take-append-drop, take-take}
use Rattle.std.specs.Simd.{first_chunks}
use native.Mathlib.Nat.{suc-mul, zero-mul}

same-front : (n k : ℕ) (a b : List ℕ) → first_chunks n k a ≡ first_chunks n k b → take (k * n) a ≡ take (k * n) b
same-front n zero a b e = ap (λ (m : ℕ). take m a) (zero-mul n) ∙ sym (ap (λ (m : ℕ). take m b) (zero-mul n))
same-front n (suc k) a b e =
    let head : take n a ≡ take n b = ap (λ (words : List (List ℕ)). get_or words 0 []) e in
    let rest : take (k * n) (drop n a) ≡ take (k * n) (drop n b) = same-front n k (drop n a) (drop n b) (ap (λ (words : List (List ℕ)). drop 1 words) e) in
    let many : suc k * n ≡ n + k * n = suc-mul k n ∙ omega arith in
    ap (λ (m : ℕ). take m a) many ∙ take-add n (k * n) a ∙ ap₂ ◌++◌ head rest ∙ sym (ap (λ (m : ℕ). take m b) many ∙ take-add n (k * n) b)

-- two keys of a word or more that have the same last word, and the same words from their fronts on
pub same-words : (a b : List ℕ) → length a ≡ length b → 8 ≤ length a → drop (length a - 8) a ≡ drop (length b - 8) b → first_chunks 8 (length a / 8) a ≡ first_chunks 8 (length b / 8) b → a ≡ b
same-words a b long word last words =
    let n = length a in
    let k = n / 8 in
    let fronts : take (k * 8) a ≡ take (k * 8) b = same-front 8 k a b (words ∙ ap (λ (m : ℕ). first_chunks 8 (m / 8) b) (sym long)) in
    let within : n - 8 ≤ k * 8 = omega arith in
    let front : take (n - 8) a ≡ take (n - 8) b = sym (take-take (n - 8) (k * 8) a within) ∙ ap (take (n - 8)) fronts ∙ take-take (n - 8) (k * 8) b within in
    let ends : drop (n - 8) a ≡ drop (n - 8) b = last ∙ ap (λ (m : ℕ). drop (m - 8) b) (sym long) in
    sym (take-append-drop (n - 8) a) ∙ ap₂ ◌++◌ front ends ∙ take-append-drop (n - 8) b
