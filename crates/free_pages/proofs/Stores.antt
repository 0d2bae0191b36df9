-- What stores do to run words.
use Rattle.std.proofs.Common.{◌≡◌, ◌≢◌, ℕ, ◌+◌, ◌*◌, ◌/◌, ◌%◌, ◌<◌, Option, is_some, IsSome, unwrap_or, inl, inr, refl, sym, ap, subst, ◌∙◌, arith}
use mathlib.Core.Logic.{dite}
use native.Mathlib.Decide.{ℕ_discrete}
use Rattle.std.specs.FinMap as fin
use Rattle.word_map.specs.WordMap.{WordMap, at}
use Rattle.word_map.proofs.Maps.{at-insert_same, at-insert_other}
use Rattle.free_pages.specs.Legal.{Adds}
use Rattle.free_pages.specs.Runs.{run_word, IsRuns, KeepsHeads, granted_at, granted_in}
use Rattle.free_pages.proofs.Laid.{fuse_laid, cut_laid, mark_laid}
use Rattle.free_pages.proofs.Lists.{granted_same, granted_more}

pub word_here : (m : WordMap) (heads q x p : ℕ) → p ≡ q → run_word (fin.insert m (heads + q) x) heads p ≡ x
word_here m heads q x p e = ap (λ (o : Option ℕ). unwrap_or o 0) (at-insert_same m (heads + q) x (heads + p) (ap (λ (z : ℕ). heads + z) e))

pub word_else : (m : WordMap) (heads q x p : ℕ) → p ≢ q → run_word (fin.insert m (heads + q) x) heads p ≡ run_word m heads p
word_else m heads q x p n = ap (λ (o : Option ℕ). unwrap_or o 0) (at-insert_other m (heads + q) x (heads + p) (λ e. n (let z : p ≡ q = omega arith in z)))

-- a word that is not 0 loses no run
pub keeps_head : (m : WordMap) (heads q x : ℕ) → 0 < x → KeepsHeads m (fin.insert m (heads + q) x) heads
keeps_head m heads q x some k h = dite (ℕ_discrete k q)
    (λ (e : k ≡ q). subst (λ (z : ℕ). 0 < z) (sym (word_here m heads q x k e)) some)
    (λ (n : k ≢ q). subst (λ (z : ℕ). 0 < z) (sym (word_else m heads q x k n)) h)

pub owns_after : (m : WordMap) (k x j : ℕ) → IsSome (at m j) → IsSome (at (fin.insert m k x) j)
owns_after m k x j h = dite (ℕ_discrete j k)
    (λ (e : j ≡ k). ap is_some (at-insert_same m k x j e))
    (λ (n : j ≢ k). ap is_some (at-insert_other m k x j n) ∙ h)

pub fused_as : (m : WordMap) (heads pages p q a x : ℕ) → IsRuns m heads pages → 0 < a → p + a ≡ q → q < pages → run_word m heads p ≡ 4 * a → run_word m heads q % 4 ≡ 0 → x ≡ 4 * (a + run_word m heads q / 4)
    → IsRuns (fin.insert (fin.insert m (heads + q) 0) (heads + p) x) heads pages
    × (granted_in (fin.insert (fin.insert m (heads + q) 0) (heads + p) x) heads pages ≡ granted_in m heads pages)
fused_as m heads pages p q a x runs pos follows low here there e =
    let m1 = fin.insert m (heads + q) 0 in
    let m2 = fin.insert m1 (heads + p) x in
    let apart : q ≢ p = λ s. omega arith in
    let at_p : run_word m2 heads p ≡ x = word_here m1 heads p x p refl in
    let at_q : run_word m2 heads q ≡ 0 = word_else m1 heads p x q apart ∙ word_here m heads q 0 q refl in
    let same : (k : ℕ) → k ≢ p → k ≢ q → run_word m2 heads k ≡ run_word m heads k = λ k n n2. word_else m1 heads p x k n ∙ word_else m heads q 0 k n2 in (
      record {
        owns = λ k b. owns_after m1 (heads + p) x (heads + k) (owns_after m (heads + q) 0 (heads + k) (runs.owns k b));
        laid = fuse_laid (run_word m heads) (run_word m2 heads) pages p q a runs.laid pos follows low here there (at_p ∙ e) at_q same;
      },
      granted_same pages 0 (run_word m heads) (run_word m2 heads) (λ k b c. dite (ℕ_discrete k p)
          (λ (s : k ≡ p). inr (ap (λ (z : ℕ). run_word m heads z % 4) s ∙ four (run_word m heads p) a here, ap (λ (z : ℕ). run_word m2 heads z % 4) s ∙ four (run_word m2 heads p) (a + run_word m heads q / 4) (at_p ∙ e)))
          (λ (n : k ≢ p). dite (ℕ_discrete k q)
          (λ (s : k ≡ q). inr (ap (λ (z : ℕ). run_word m heads z % 4) s ∙ there, ap (λ (z : ℕ). run_word m2 heads z % 4) s ∙ ap (λ (z : ℕ). z % 4) at_q))
          (λ (n2 : k ≢ q). inl (same k n n2)))),
    )
  where
    four : (y b : ℕ) → y ≡ 4 * b → y % 4 ≡ 0
    four y b f = omega arith

pub cut_as : (m : WordMap) (heads pages p q n b x y : ℕ) → IsRuns m heads pages → p < pages → 0 < n → 0 < b → p + n ≡ q → run_word m heads p ≡ 4 * (n + b) → x ≡ 4 * b → y ≡ 4 * n
    → IsRuns (fin.insert (fin.insert m (heads + q) x) (heads + p) y) heads pages
    × (granted_in (fin.insert (fin.insert m (heads + q) x) (heads + p) y) heads pages ≡ granted_in m heads pages)
cut_as m heads pages p q n b x y runs low pos more follows here e f =
    let m1 = fin.insert m (heads + q) x in
    let m2 = fin.insert m1 (heads + p) y in
    let apart : q ≢ p = λ s. omega arith in
    let at_p : run_word m2 heads p ≡ y = word_here m1 heads p y p refl in
    let at_q : run_word m2 heads q ≡ x = word_else m1 heads p y q apart ∙ word_here m heads q x q refl in
    let same : (k : ℕ) → k ≢ p → k ≢ q → run_word m2 heads k ≡ run_word m heads k = λ k n n2. word_else m1 heads p y k n ∙ word_else m heads q x k n2 in
    let hp = runs.laid.heads p low (some_four (run_word m heads p) n b here pos) in
    let zero_q : run_word m heads q ≡ 0 = hp.zeros q (omega arith) (inside_four (run_word m heads p) n b p q here more follows) in (
      record {
        owns = λ k b. owns_after m1 (heads + p) y (heads + k) (owns_after m (heads + q) x (heads + k) (runs.owns k b));
        laid = cut_laid (run_word m heads) (run_word m2 heads) pages p q n b runs.laid low pos more follows here (at_p ∙ f) (at_q ∙ e) same;
      },
      granted_same pages 0 (run_word m heads) (run_word m2 heads) (λ k _ _. dite (ℕ_discrete k p)
          (λ (s : k ≡ p). inr (ap (λ (z : ℕ). run_word m heads z % 4) s ∙ four (run_word m heads p) (n + b) here, ap (λ (z : ℕ). run_word m2 heads z % 4) s ∙ four (run_word m2 heads p) n (at_p ∙ f)))
          (λ (n1 : k ≢ p). dite (ℕ_discrete k q)
          (λ (s : k ≡ q). inr (ap (λ (z : ℕ). run_word m heads z % 4) s ∙ ap (λ (z : ℕ). z % 4) zero_q, ap (λ (z : ℕ). run_word m2 heads z % 4) s ∙ four (run_word m2 heads q) b (at_q ∙ e)))
          (λ (n2 : k ≢ q). inl (same k n1 n2)))),
    )
  where
    four : (y b : ℕ) → y ≡ 4 * b → y % 4 ≡ 0
    four y b f = omega arith

    some_four : (w n b : ℕ) → w ≡ 4 * (n + b) → 0 < n → 0 < w
    some_four w n b e h = omega arith

    inside_four : (w n b p q : ℕ) → w ≡ 4 * (n + b) → 0 < b → p + n ≡ q → q < p + w / 4
    inside_four w n b p q e h f = omega arith

pub mark_as : (m : WordMap) (heads pages p x : ℕ) → IsRuns m heads pages → p < pages → 0 < run_word m heads p → x / 4 ≡ run_word m heads p / 4 → x % 4 < 3
    → IsRuns (fin.insert m (heads + p) x) heads pages
mark_as m heads pages p x runs low some long kind =
    let at_p = word_here m heads p x p refl in record {
      owns = λ k b. owns_after m (heads + p) x (heads + k) (runs.owns k b);
      laid = mark_laid (run_word m heads) (run_word (fin.insert m (heads + p) x) heads) pages p runs.laid low some
          (ap (λ (z : ℕ). z / 4) at_p ∙ long) (subst (λ (z : ℕ). z % 4 < 3) (sym at_p) kind) (λ k n. word_else m heads p x k n);
    }

pub marked_grants : (m : WordMap) (heads pages p x : ℕ) → p < pages → run_word m heads p % 4 ≡ 0 → 0 < x % 4
    → Adds (granted_in m heads pages) (granted_in (fin.insert m (heads + p) x) heads pages) (granted_at p x)
marked_grants m heads pages p x low free some =
    let at_p = word_here m heads p x p refl in
    subst (λ (z : ℕ). Adds (granted_in m heads pages) (granted_in (fin.insert m (heads + p) x) heads pages) (granted_at p z)) at_p
    (granted_more pages 0 p (run_word m heads) (run_word (fin.insert m (heads + p) x) heads) (omega arith) (omega arith) free (subst (λ (z : ℕ). 0 < z % 4) (sym at_p) some) (λ k n. word_else m heads p x k n))

pub marked_frees : (m : WordMap) (heads pages p x : ℕ) → p < pages → 0 < run_word m heads p % 4 → x % 4 ≡ 0
    → Adds (granted_in (fin.insert m (heads + p) x) heads pages) (granted_in m heads pages) (granted_at p (run_word m heads p))
marked_frees m heads pages p x low some free =
    let at_p = word_here m heads p x p refl in
    granted_more pages 0 p (run_word (fin.insert m (heads + p) x) heads) (run_word m heads) (omega arith) (omega arith) (ap (λ (z : ℕ). z % 4) at_p ∙ free) some (λ k n. sym (word_else m heads p x k n))
