-- The longest run of free pages, as a walk finds it.
use Rattle.std.proofs.Common.{◌≡◌, ℕ, ◌+◌, ◌*◌, ◌/◌, ◌%◌, ◌<◌, ◌≤◌, List, ◌⊎◌, ⊎_elim, sym, subst, arith}
use Rattle.std.proofs.lemmas.Bool.{cases_lt, both_ways}
use Rattle.free_pages.specs.Legal.{Granted, is_taken, IsFree, IsLargest}
use Rattle.free_pages.specs.Runs.{IsBest, IsLaid, granted_of}
use Rattle.free_pages.proofs.Lists.{free_in, of_taken}

pub free_run : (w : ℕ → ℕ) (pages p len : ℕ) → IsLaid w pages → p < pages → 0 < len → w p ≡ 4 * len → IsFree pages (granted_of w 0 pages) p len
free_run w pages p len l low some e =
    let some_p : 0 < w p = omega arith in
    let long : w p / 4 ≡ len = omega arith in record {
      inside = subst (λ (z : ℕ). p + z ≤ pages) long (l.heads p low some_p).inside;
      free = λ k a b. free_in w pages p k l low some_p (omega arith) a (subst (λ (z : ℕ). k < p + z) (sym long) b);
    }

pub best_free : (w : ℕ → ℕ) (pages p len best more : ℕ) → IsLaid w pages → p < pages → 0 < len → w p ≡ 4 * len → (p + len < pages → 0 < w (p + len) % 4)
    → best ≤ more → len ≤ more → (more ≡ best) ⊎ (more ≡ len) → IsBest pages (granted_of w 0 pages) p best → IsBest pages (granted_of w 0 pages) (p + len) more
best_free w pages p len best more l low some e ends a b c old =
    let free = free_run w pages p len l low some e in record {
      there = ⊎_elim
          (λ (s : more ≡ best). (old.there.0, subst (λ (z : ℕ). IsFree pages (granted_of w 0 pages) old.there.0 z) (sym s) old.there.1))
          (λ (s : more ≡ len). (p, subst (λ (z : ℕ). IsFree pages (granted_of w 0 pages) p z) (sym s) free))
          c;
      most = λ from n x f. ⊎_elim
          (λ (y : from < p). let z : n ≤ best = old.most from n y f in omega arith)
          (λ (y : p ≤ from). ⊎_elim
          (λ (z : p + len < from + n). absurd (
          let q = p + len in
          let in_q : q < pages = omega (arith, f.inside) in
          let odd : 0 < w q % 4 = ends in_q in
          let long : 0 < w q / 4 = (l.heads q in_q (omega arith)).long in
          both_ways (is_taken (granted_of w 0 pages) q) (f.free q (omega arith) z) (of_taken pages 0 q q w (omega arith) (omega arith) odd (omega arith) (omega arith))))
          (λ (z : from + n ≤ p + len). omega arith)
          (cases_lt (p + len) (from + n)))
          (cases_lt from p);
    }

pub best_granted : (w : ℕ → ℕ) (pages p best : ℕ) → p < pages → 0 < w p % 4 → IsBest pages (granted_of w 0 pages) p best → IsBest pages (granted_of w 0 pages) (p + w p / 4) best
best_granted w pages p best low odd old = record {
  there = old.there;
  most = λ from n x f. ⊎_elim
      (λ (y : from < p). old.most from n y f)
      (λ (y : p ≤ from). ⊎_elim
      (λ (z : 0 < n). absurd (both_ways (is_taken (granted_of w 0 pages) from) (f.free from (omega arith) (omega arith)) (of_taken pages 0 from p w (omega arith) (omega arith) odd y x)))
      (λ (z : n ≤ 0). omega arith)
      (cases_lt 0 n))
      (cases_lt from p);
}

pub best_all : (pages p best : ℕ) (granted : List Granted) → pages ≤ p → IsBest pages granted p best → IsLargest pages granted best
best_all pages p best granted low old = record {
  there = old.there;
  most = λ from n f. ⊎_elim
      (λ (y : from < p). old.most from n y f)
      (λ (y : p ≤ from). omega (arith, f.inside))
      (cases_lt from p);
}
