-- The table of sizes, read once by computing, and what holds at each class.
use Rattle.std.proofs.Common.{◌≡◌, ◌≢◌, ◌⊎◌, ℕ, zero, suc, ◌+◌, ◌-◌, ◌%◌, ◌<◌, ◌≤◌, Bool, true, false, ◌&&◌, ◌==◌, leb, ltb, List, [], ◌∷◌, length, get_or, refl, sym, ap, subst, ◌∙◌, arith, ⊎_elim, cond}
use Rattle.std.proofs.lemmas.Bool.{cases_lt, le-leb, lt-leb}
use Rattle.std.proofs.lemmas.Bool.Decides.{nat_tests}
use Rattle.size_classes.specs.Classes.{sizes, IsClass, IsLeast, class_size, first_size, largest_size}

pub both : (a b : Bool) → (a && b) ≡ true → (a ≡ true) × (b ≡ true)
both true b e = (refl, e)
both false b e = cc

-- each size holds whole words, and is more than the one before
ascend : ℕ → List ℕ → Bool
ascend last [] = true
ascend last (x ∷ xs) = ltb last x && ((x % 8 == 0) && (leb x 8192 && ascend x xs))

pub record IsSize (last x : ℕ) : Type 0 where
  pub above : last < x
  pub words : x % 8 ≡ 0
  pub most : x ≤ 8192

size_of : (last x : ℕ) (rest : Bool) → (ltb last x && ((x % 8 == 0) && (leb x 8192 && rest))) ≡ true → IsSize last x × (rest ≡ true)
size_of last x rest e =
    let a = both (ltb last x) ((x % 8 == 0) && (leb x 8192 && rest)) e in
    let b = both (x % 8 == 0) (leb x 8192 && rest) a.1 in
    let c = both (leb x 8192) rest b.1 in
    let p = a.0 in
    let q = b.0 in
    let r = c.0 in
    (record { above = grind (arith, nat_tests); words = grind (arith, nat_tests); most = grind (arith, nat_tests) }, c.1)

sized_at : (last : ℕ) (xs : List ℕ) (k : ℕ) → ascend last xs ≡ true → k < length xs → IsSize (get_or (last ∷ xs) k 0) (get_or xs k 0)
unfolding ascend
sized_at last [] k e h = absurd (omega arith)
sized_at last (x ∷ xs) zero e h = (size_of last x (ascend x xs) e).0
sized_at last (x ∷ xs) (suc k) e h = sized_at x xs k (size_of last x (ascend x xs) e).1 (omega arith)

-- the rule at each entry of the table: the test of the whole table computes
pub size_at : (k : ℕ) → k < 36 → IsSize (get_or (0 ∷ sizes) k 0) (get_or sizes k 0)
unfolding ascend
size_at k h = sized_at 0 sizes k refl h

-- an earlier size is no more than the one before a later place
pub grows : (k j : ℕ) → j < k → k ≤ 36 → get_or sizes j 0 ≤ get_or (0 ∷ sizes) k 0
grows zero j h m = absurd (omega arith)
grows (suc k) j h m = ⊎_elim
    (λ (l : j < k). let g = grows k j l (omega arith) in let s = size_at k (omega arith) in last k j g s.above)
    (λ (e : j ≡ k). same k j e)
    (before k j h)
  where
    before : (k j : ℕ) → j < suc k → (j < k) ⊎ (j ≡ k)
    before k j h = grind arith

    last : (k j : ℕ) → get_or sizes j 0 ≤ get_or (0 ∷ sizes) k 0 → get_or (0 ∷ sizes) k 0 < get_or sizes k 0 → get_or sizes j 0 ≤ get_or sizes k 0
    last k j a b = omega arith

    same : (k j : ℕ) → j ≡ k → get_or sizes j 0 ≤ get_or sizes k 0
    same k j e = rw e (omega arith)

-- the size before a place is a whole number of words
pub before_words : (k : ℕ) → k ≤ 36 → get_or (0 ∷ sizes) k 0 % 8 ≡ 0
before_words zero h = refl
before_words (suc k) h = (size_at k (omega arith)).words

-- a class holds whole words, 1 to 1,024 of them
pub class_words : (class : ℕ) → IsClass class → class_size class % 8 ≡ 0
class_words class c = (size_at (class - 2) (omega (arith, c.low, c.high))).words

pub class_range : (class : ℕ) → IsClass class → (8 ≤ class_size class) × (class_size class ≤ 8192)
class_range class c =
    let s = size_at (class - 2) (omega (arith, c.low, c.high)) in
    (least (get_or (0 ∷ sizes) (class - 2) 0) (class_size class) s.above s.words, s.most)
  where
    least : (y x : ℕ) → y < x → x % 8 ≡ 0 → 8 ≤ x
    least y x h e = omega arith

-- a later class has larger objects
pub size_grows : (class other : ℕ) → IsClass class → IsClass other → class ≤ other → class_size class ≤ class_size other
size_grows class other k m h = ⊎_elim
    (λ (l : class < other). let g = grows (other - 2) (class - 2) (omega (arith, k.low)) (omega (arith, m.high)) in let s = (size_at (other - 2) (omega (arith, m.high, m.low))).above in omega arith)
    (λ (l : other ≤ class). let e : class ≡ other = omega arith in subst (λ (z : ℕ). class_size class ≤ class_size z) e (omega arith))
    (cases_lt class other)

-- where the least class has more bytes, no class has just these
pub no_class : (bytes class : ℕ) → IsLeast bytes class → class_size class ≢ bytes → (other : ℕ) → IsClass other → class_size other ≢ bytes
no_class bytes class k ne other is e =
    let l = k.least other is (subst (λ (z : ℕ). bytes ≤ z) (sym e) (omega arith)) in
    let g = size_grows class other k.is_class is l in
    let h = k.holds in
    ne (omega (arith, e))

-- no class's object has no bytes, or more than the largest
pub no_such_size : (bytes : ℕ) → (bytes ≡ 0) ⊎ (largest_size < bytes) → (class : ℕ) → IsClass class → class_size class ≢ bytes
no_such_size bytes out class is e = let r = class_range class is in let a = r.0 in let b = r.1 in ⊎_elim (λ (z : bytes ≡ 0). omega (arith, e)) (λ (z : largest_size < bytes). omega (arith, e)) out

-- the first size that holds the bytes
first_at : (ss : List ℕ) (other bytes i : ℕ) → i < length ss → bytes ≤ get_or ss i 0 → ((j : ℕ) → j < i → get_or ss j 0 < bytes) → first_size ss other bytes ≡ get_or ss i 0
unfolding first_size
first_at [] other bytes i low h before = absurd (omega arith)
first_at (s ∷ ss) other bytes zero low h before = ap (λ (b : Bool). cond b s (first_size ss other bytes)) (le-leb bytes s h)
first_at (s ∷ ss) other bytes (suc i) low h before = ap (λ (b : Bool). cond b s (first_size ss other bytes)) (lt-leb bytes s (before 0 (omega arith))) ∙ first_at ss other bytes i (omega arith) h (λ j l. before (suc j) (omega arith))

-- where no size does, it is the other one
first_none : (ss : List ℕ) (other bytes : ℕ) → ((j : ℕ) → j < length ss → get_or ss j 0 < bytes) → first_size ss other bytes ≡ other
unfolding first_size
first_none [] other bytes before = refl
first_none (s ∷ ss) other bytes before = ap (λ (b : Bool). cond b s (first_size ss other bytes)) (lt-leb bytes s (before 0 (omega arith))) ∙ first_none ss other bytes (λ j l. before (suc j) (omega arith))

-- the first size that holds a request is that of its least class
pub size_least : (bytes class other : ℕ) → IsLeast bytes class → first_size sizes other bytes ≡ class_size class
size_least bytes class other k = first_at sizes other bytes (class - 2) (omega (arith, k.is_class.high, k.is_class.low)) k.holds
    (λ j l. ⊎_elim
    (λ (x : get_or sizes j 0 < bytes). x)
    (λ (x : bytes ≤ get_or sizes j 0). absurd (let m = k.least (j + 2) (record { low = omega arith; high = omega (arith, k.is_class.high) }) (subst (λ (z : ℕ). bytes ≤ get_or sizes z 0) (let e : j ≡ j + 2 - 2 = omega arith in e) x) in omega arith))
    (cases_lt (get_or sizes j 0) bytes))

-- and above the largest size no class holds it
pub size_above : (bytes other : ℕ) → largest_size < bytes → first_size sizes other bytes ≡ other
size_above bytes other h = first_none sizes other bytes (λ j l. let m = (size_at j l).most in omega arith)
