-- How often numbers stand in lists, and the numbers of jobs that were done.
use Rattle.std.proofs.Common.{◌≡◌, ℕ, ◌+◌, ◌<◌, ◌≤◌, ◌==◌, cond, nat_lt, List, [], ◌∷◌, ◌++◌, map, refl, sym, ap, ◌∙◌, subst, arith}
use Rattle.std.proofs.lemmas.List.{map-append}
use Rattle.std.proofs.lemmas.List.Sums.{sum_by-append}
use Rattle.std.proofs.lemmas.Bool.Decides.{nat_tests}
use Rattle.job_queue.specs.declared.job.Done.{Done}
use Rattle.job_queue.specs.Jobs.{AreDone, done_of, times}

-- a number stands in two lists as often as in both of them
pub times_both : (n : ℕ) (xs ys : List ℕ) → times n (xs ++ ys) ≡ times n xs + times n ys
times_both n xs ys = sum_by-append (λ m. cond (m == n) 1 0) xs ys

-- one that stands below k + 1 is below k, or is k
below_next : (n k : ℕ) → cond (nat_lt n (k + 1)) 1 0 ≡ cond (nat_lt n k) 1 0 + cond (k == n) 1 0
below_next n k = grind (arith, nat_tests)

-- the next number was put behind the first of two lists, or behind the second
pub next_one : (n k : ℕ) (xs ys zs : List ℕ) → times n xs + times n ys ≡ cond (nat_lt n k) 1 0 → zs ≡ xs ++ k ∷ [] → times n zs + times n ys ≡ cond (nat_lt n (k + 1)) 1 0
next_one n k xs ys zs h e = omega (arith, h, ap (times n) e, times_both n xs (k ∷ []), below_next n k)

pub next_other : (n k : ℕ) (xs ys zs : List ℕ) → times n xs + times n ys ≡ cond (nat_lt n k) 1 0 → zs ≡ ys ++ k ∷ [] → times n xs + times n zs ≡ cond (nat_lt n (k + 1)) 1 0
next_other n k xs ys zs h e = omega (arith, h, ap (times n) e, times_both n ys (k ∷ []), below_next n k)

-- the numbers of jobs that were done are the numbers that they had
numbers_back : (ns : List ℕ) → map (λ d. d.number) (map done_of ns) ≡ ns
numbers_back [] = refl
numbers_back (n ∷ ns) = ap (λ (l : List ℕ). n ∷ l) (numbers_back ns)

all_right : (ns : List ℕ) → map done_of ns ≡ map (λ d. done_of d.number) (map done_of ns)
all_right [] = refl
all_right (n ∷ ns) = ap (λ (l : List Done). done_of n ∷ l) (all_right ns)

below : (n count : ℕ) → n < count → cond {A = ℕ} (nat_lt n count) 1 0 ≡ 1
below n count h = grind (arith, nat_tests)

not_below : (n count : ℕ) → count ≤ n → cond {A = ℕ} (nat_lt n count) 1 0 ≡ 0
not_below n count h = grind (arith, nat_tests)

-- the jobs of two workers, all of them done
pub both_done : (count : ℕ) (xs ys : List ℕ) (done : List Done) → ((n : ℕ) → times n xs + times n ys ≡ cond (nat_lt n count) 1 0) → done ≡ map done_of xs ++ map done_of ys → AreDone count done
both_done count xs ys done h e =
    let are : done ≡ map done_of (xs ++ ys) = e ∙ sym (map-append done_of xs ys) in
    let numbers : map (λ (d : Done). d.number) done ≡ xs ++ ys = ap (map (λ (d : Done). d.number)) are ∙ numbers_back (xs ++ ys) in
    let all : (n : ℕ) → times n (map (λ (d : Done). d.number) done) ≡ cond (nat_lt n count) 1 0 = (λ n. ap (times n) numbers ∙ times_both n xs ys ∙ h n) in
    record {
      once = λ n lt. all n ∙ below n count lt;
      others = λ n le. all n ∙ not_below n count le;
      results = are ∙ all_right (xs ++ ys) ∙ ap (map (λ (d : Done). done_of d.number)) (sym are);
    }
