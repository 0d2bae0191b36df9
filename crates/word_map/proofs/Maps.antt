-- What the maps of words answer.
use Rattle.std.proofs.Common.{is_some, IsSome, ◌==◌, eq-eqb, ne_eqb, ◌≡◌, ◌≢◌, ◌⊎◌, ℕ, zero, suc, ◌+◌, ◌-◌, ◌<◌, ◌≤◌, Bool, true, false, not, cond, List, [], ◌∷◌, replicate, Option, Some, None, refl, sym, ap, ◌∙◌, inl, inr, ⊎_elim, arith, is_eq, nat_cmp, Less, Equal, Greater}
use mathlib.Core.Option.{some, some-injective, some-ne-none}
use mathlib.Core.Logic.{dite}
use native.Mathlib.Decide.{ℕ_discrete}
use lib.ListN.{get_elem?}
use Rattle.std.specs.Cmp.{tied_itself, nat_cmp_total}
use Rattle.std.proofs.lemmas.Bool.Decides.{nat_tests}
use Rattle.std.specs.FinMap as fin
use Rattle.word_map.specs.WordMap.{WordMap, at, HasJust, is_within, range_of, rest_of, put_all, union, numbered, Disjoint}

same_key : (q k : ℕ) → q ≡ k → is_eq (nat_cmp q k) ≡ true
same_key q k e = ap (λ (x : ℕ). is_eq (nat_cmp q x)) (sym e) ∙ ap is_eq (tied_itself nat_cmp_total q)

other_key : (q k : ℕ) → q ≢ k → is_eq (nat_cmp q k) ≡ false
other_key q k n = elim (nat_cmp q k) as (λ r. nat_cmp q k ≡ r → is_eq r ≡ false) [
  | Less ↦ λ _. refl
  | Equal ↦ λ e. absurd (n (fin.nat_cmp-IsAntisymmetric q k e))
  | Greater ↦ λ _. refl
] refl

pub at-insert_same : (m : WordMap) (k x q : ℕ) → q ≡ k → at (fin.insert m k x) q ≡ Some x
at-insert_same m k x q e = fin.get-insert nat_cmp_total m k x q ∙ ap (λ b. cond b (Some x) (at m q)) (same_key q k e)

pub at-insert_other : (m : WordMap) (k x q : ℕ) → q ≢ k → at (fin.insert m k x) q ≡ at m q
at-insert_other m k x q n = fin.get-insert nat_cmp_total m k x q ∙ ap (λ b. cond b (Some x) (at m q)) (other_key q k n)

some_same : (x y : ℕ) → Some x ≡ Some y → x ≡ y
some_same x y e = cc

-- what a map with one more entry answers comes from that entry or from before
pub at-insert : (m : WordMap) (k x q y : ℕ) → at (fin.insert m k x) q ≡ Some y → ((q ≡ k) × (x ≡ y)) ⊎ ((q ≢ k) × (at m q ≡ Some y))
at-insert m k x q y e = dite (ℕ_discrete q k)
    (λ (s : q ≡ k). inl (s, some_same x y (sym (at-insert_same m k x q s) ∙ e)))
    (λ (n : q ≢ k). inr (n, sym (at-insert_other m k x q n) ∙ e))

pub at-range : (m : WordMap) (from len k : ℕ) → at (range_of m from len) k ≡ cond (is_within from len k) (at m k) None
at-range m from len k = fin.get-retain_keys m (is_within from len) k (λ x e. ap (is_within from len) (sym (fin.nat_cmp-IsAntisymmetric k x e)))

pub at-rest : (m : WordMap) (from len k : ℕ) → at (rest_of m from len) k ≡ cond (not (is_within from len k)) (at m k) None
at-rest m from len k = fin.get-retain_keys m (λ q. not (is_within from len q)) k (λ x e. ap (λ q. not (is_within from len q)) (sym (fin.nat_cmp-IsAntisymmetric k x e)))

kept : (b : Bool) (o : Option ℕ) (x : ℕ) → cond b o None ≡ Some x → (b ≡ true) × (o ≡ Some x)
kept true o x e = (refl, e)
kept false o x e = cc

not_true : (b : Bool) → not b ≡ true → b ≡ false
not_true true e = cc
not_true false e = refl

pub range_inside : (m : WordMap) (from len k x : ℕ) → at (range_of m from len) k ≡ Some x → (is_within from len k ≡ true) × (at m k ≡ Some x)
range_inside m from len k x e = kept (is_within from len k) (at m k) x (sym (at-range m from len k) ∙ e)

pub rest_inside : (m : WordMap) (from len k x : ℕ) → at (rest_of m from len) k ≡ Some x → (is_within from len k ≡ false) × (at m k ≡ Some x)
rest_inside m from len k x e =
    let p = kept (not (is_within from len k)) (at m k) x (sym (at-rest m from len k) ∙ e) in
    (not_true (is_within from len k) p.0, p.1)

pub rest-range_disjoint : (m : WordMap) (from len : ℕ) → Disjoint (rest_of m from len) (range_of m from len)
rest-range_disjoint m from len k x y a b =
    let p = rest_inside m from len k x a in
    let q = range_inside m from len k y b in
    let e : true ≡ false = sym q.0 ∙ p.0 in cc

pub within_true : (from len k : ℕ) → from ≤ k → k < from + len → is_within from len k ≡ true
within_true from len k a b = grind (arith, nat_tests)

pub within_is : (from len k : ℕ) → is_within from len k ≡ true → (from ≤ k) × (k < from + len)
within_is from len k e = (grind (arith, nat_tests), grind (arith, nat_tests))

-- where m has each word of the range, so has the range
pub at-range_in : (m : WordMap) (from len k : ℕ) → is_within from len k ≡ true → at (range_of m from len) k ≡ at m k
at-range_in m from len k e = at-range m from len k ∙ ap (λ b. cond b (at m k) None) e

pub at-range_out : (m : WordMap) (from len k : ℕ) → is_within from len k ≡ false → at (range_of m from len) k ≡ None
at-range_out m from len k e = at-range m from len k ∙ ap (λ b. cond b (at m k) None) e

pub at-rest_out : (m : WordMap) (from len k : ℕ) → is_within from len k ≡ false → at (rest_of m from len) k ≡ at m k
at-rest_out m from len k e = at-rest m from len k ∙ ap (λ b. cond (not b) (at m k) None) e

pub at-rest_in : (m : WordMap) (from len k : ℕ) → is_within from len k ≡ true → at (rest_of m from len) k ≡ None
at-rest_in m from len k e = at-rest m from len k ∙ ap (λ b. cond (not b) (at m k) None) e

abbrev pub or_else : Option ℕ → Option ℕ → Option ℕ
or_else (Some x) o = Some x
or_else None o = o

or_cond : (b : Bool) (x : ℕ) (o p : Option ℕ) → cond b (Some x) (or_else o p) ≡ or_else (cond b (Some x) o) p
or_cond true x o p = refl
or_cond false x o p = refl

at-put_all : (es : List (ℕ × ℕ)) (m : WordMap) (k : ℕ) → at (put_all es m) k ≡ or_else (fin.find nat_cmp k es) (at m k)
at-put_all [] m k = refl
at-put_all (e ∷ es) m k =
    fin.get-insert nat_cmp_total (put_all es m) e.0 e.1 k
    ∙ ap (λ (o : Option ℕ). cond (is_eq (nat_cmp k e.0)) (Some e.1) o) (at-put_all es m k)
    ∙ or_cond (is_eq (nat_cmp k e.0)) e.1 (fin.find nat_cmp k es) (at m k)

pub at-union : (m n : WordMap) (k : ℕ) → at (union m n) k ≡ or_else (at n k) (at m k)
unfolding union
at-union m n k = at-put_all (fin.entries n) m k ∙ ap (λ (o : Option ℕ). or_else o (at m k)) (sym (fin.get-entries n k))

either_of : (o p : Option ℕ) (x : ℕ) → or_else o p ≡ Some x → (o ≡ Some x) ⊎ (p ≡ Some x)
either_of (Some y) p x e = inl e
either_of None p x e = inr e

-- what the map of both answers, one of the two answers
pub union_from : (m n : WordMap) (k x : ℕ) → at (union m n) k ≡ Some x → (at n k ≡ Some x) ⊎ (at m k ≡ Some x)
union_from m n k x e = either_of (at n k) (at m k) x (sym (at-union m n k) ∙ e)

no_word : (k : ℕ) → at fin.empty k ≡ None
no_word k = fin.get-empty nat_cmp k

pub numbered_from : (xs : List ℕ) (j k x : ℕ) → at (numbered j xs) k ≡ Some x → (j ≤ k) × (get_elem? xs (k - j) ≡ some x)
numbered_from [] j k x e = let n = no_word k in cc
numbered_from (y ∷ ys) j k x e = ⊎_elim
    (λ (p : (k ≡ j) × (y ≡ x)). (omega arith, ap (get_elem? (y ∷ ys)) (let z : k - j ≡ 0 = omega (arith, p.0) in z) ∙ ap some p.1))
    (λ (p : (k ≢ j) × (at (numbered (suc j) ys) k ≡ Some x)).
    let r = numbered_from ys (suc j) k x p.1 in
    (omega (arith, r.0), ap (get_elem? (y ∷ ys)) (let z : k - j ≡ suc (k - suc j) = omega (arith, r.0) in z) ∙ r.1))
    (at-insert (numbered (suc j) ys) j y k x e)

pub numbered_at : (xs : List ℕ) (j i x k : ℕ) → k ≡ j + i → get_elem? xs i ≡ some x → at (numbered j xs) k ≡ Some x
numbered_at [] j i x k e f = absurd (some-ne-none x (sym f))
numbered_at (y ∷ ys) j zero x k e f = at-insert_same (numbered (suc j) ys) j y k (omega arith) ∙ ap Some (some-injective y x f)
numbered_at (y ∷ ys) j (suc i) x k e f = at-insert_other (numbered (suc j) ys) j y k (λ z. omega arith) ∙ numbered_at ys (suc j) i x k (omega arith) f

turned : {A : Type 0} (b : Bool) (x y : A) → cond (not b) x y ≡ cond b y x
turned true x y = refl
turned false x y = refl

pub at-rest_cond : (m : WordMap) (from len k : ℕ) → at (rest_of m from len) k ≡ cond (is_within from len k) None (at m k)
at-rest_cond m from len k = at-rest m from len k ∙ turned (is_within from len k) (at m k) None

or_cond_some : (o p : Option ℕ) → or_else o p ≡ cond (is_some o) o p
or_cond_some (Some x) p = refl
or_cond_some None p = refl

pub at-union_cond : (m n : WordMap) (k : ℕ) → at (union m n) k ≡ cond (is_some (at n k)) (at n k) (at m k)
at-union_cond m n k = at-union m n k ∙ or_cond_some (at n k) (at m k)

-- the same with the comparison of numbers as `==`
pub at-insert_cond : (m : WordMap) (k x q : ℕ) → at (fin.insert m k x) q ≡ cond (q == k) (Some x) (at m q)
at-insert_cond m k x q = dite (ℕ_discrete q k)
    (λ (e : q ≡ k). at-insert_same m k x q e ∙ sym (ap (λ b. cond b (Some x) (at m q)) (eq-eqb q k e)))
    (λ (n : q ≢ k). at-insert_other m k x q n ∙ sym (ap (λ b. cond b (Some x) (at m q)) (ne_eqb q k n)))

-- what parts answer: for `grind`, with `arith` and `nat_tests`
pub ruleset answers = (at-range, at-rest_cond, at-union_cond, at-insert_cond)

nothing_within : (j k : ℕ) → is_within j 0 k ≡ false
nothing_within j k = grind (arith, nat_tests)

one_more_within : (n j k : ℕ) → cond {A = Option ℕ} (k == j) (Some 0) (cond (is_within (suc j) n k) (Some 0) None) ≡ cond (is_within j (suc n) k) (Some 0) None
one_more_within n j k = grind (arith, nat_tests)

pub at-zeros : (n j k : ℕ) → at (numbered j (replicate n 0)) k ≡ cond (is_within j n k) (Some 0) None
at-zeros zero j k = no_word k ∙ ap (λ b. cond {A = Option ℕ} b (Some 0) None) (sym (nothing_within j k))
at-zeros (suc n) j k = at-insert_cond (numbered (suc j) (replicate n 0)) j 0 k ∙ ap (λ (o : Option ℕ). cond {A = Option ℕ} (k == j) (Some 0) o) (at-zeros n (suc j) k) ∙ one_more_within n j k

-- maps that answer alike are equal
pub same_answers : (m n : WordMap) → ((k : ℕ) → at m k ≡ at n k) → m ≡ n
same_answers m n h = fin.same_map nat_cmp_total fin.nat_cmp-IsAntisymmetric m n h

pieces : (within : Bool) (o : Option ℕ) → cond (is_some (cond within o None)) (cond within o None) (cond within None o) ≡ o
pieces true (Some x) = refl
pieces true None = refl
pieces false o = refl

-- what is cut off and joined again
pub union-cuts : (m : WordMap) (from len : ℕ) → union (rest_of m from len) (range_of m from len) ≡ m
union-cuts m from len = same_answers (union (rest_of m from len) (range_of m from len)) m (λ k.
    at-union_cond (rest_of m from len) (range_of m from len) k
    ∙ (λ i. let o = at-range m from len k i in cond (is_some o) o (at-rest_cond m from len k i))
    ∙ pieces (is_within from len k) (at m k))

row_kept : (within : Bool) (o p : Option ℕ) → is_some p ≡ within → cond within (cond (is_some p) p o) None ≡ p
row_kept true o (Some x) e = refl
row_kept true o None e = cc
row_kept false o (Some x) e = cc
row_kept false o None e = refl

others_kept : (within : Bool) (o p : Option ℕ) → is_some p ≡ within → ((x y : ℕ) → o ≡ Some x → p ≡ Some y → ⊥) → cond within None (cond (is_some p) p o) ≡ o
others_kept true (Some y) (Some x) e apart = absurd (apart y x refl refl)
others_kept true None (Some x) e apart = refl
others_kept true o None e apart = cc
others_kept false o (Some x) e apart = cc
others_kept false o None e apart = refl

-- words in a row that were joined to others, and cut off again
pub range-union : (m n : WordMap) (from len : ℕ) → HasJust n from len → range_of (union m n) from len ≡ n
range-union m n from len just = same_answers (range_of (union m n) from len) n (λ k.
    at-range (union m n) from len k
    ∙ ap (λ (o : Option ℕ). cond (is_within from len k) o None) (at-union_cond m n k)
    ∙ row_kept (is_within from len k) (at m k) (at n k) (just k))

pub rest-union : (m n : WordMap) (from len : ℕ) → Disjoint m n → HasJust n from len → rest_of (union m n) from len ≡ m
rest-union m n from len apart just = same_answers (rest_of (union m n) from len) m (λ k.
    at-rest_cond (union m n) from len k
    ∙ ap (λ (o : Option ℕ). cond (is_within from len k) None o) (at-union_cond m n k)
    ∙ others_kept (is_within from len k) (at m k) (at n k) (just k) (λ x y a b. apart k x y a b))

-- a map of just these words has each of them
pub just_has : (m : WordMap) (from len k : ℕ) → HasJust m from len → from ≤ k → k < from + len → IsSome (at m k)
just_has m from len k just low high = just k ∙ within_true from len k low high

-- a store in a word of the map changes no word's presence
pub insert-keys : (m : WordMap) (k x q : ℕ) → IsSome (at m k) → is_some (at (fin.insert m k x) q) ≡ is_some (at m q)
insert-keys m k x q has = dite (ℕ_discrete q k)
    (λ (e : q ≡ k). ap is_some (at-insert_same m k x q e) ∙ sym (ap (λ (j : ℕ). is_some (at m j)) e ∙ has))
    (λ (n : q ≢ k). ap is_some (at-insert_other m k x q n))

pub insert-just : (m : WordMap) (k x from len : ℕ) → IsSome (at m k) → HasJust m from len → HasJust (fin.insert m k x) from len
insert-just m k x from len has just q = insert-keys m k x q has ∙ just q

-- a range that lies inside a row of words is itself a row of words
pub range-just : (m : WordMap) (from len start count : ℕ) → HasJust m from len → from ≤ start → start + count ≤ from + len → HasJust (range_of m start count) start count
range-just m from len start count just low high k =
    ap is_some (at-range m start count k) ∙ go (is_within start count k) refl
  where
    go : (b : Bool) → is_within start count k ≡ b → is_some (cond b (at m k) None) ≡ is_within start count k
    go true e = let p = within_is start count k e in just k ∙ within_true from len k (omega (arith, p.0)) (omega (arith, p.1)) ∙ sym e
    go false e = sym e

-- what is left of a row of words when its first words are cut off
pub rest-just : (m : WordMap) (from len count : ℕ) → HasJust m from len → count ≤ len → HasJust (rest_of m from count) (from + count) (len - count)
rest-just m from len count just few k = ap is_some (at-rest_cond m from count k) ∙ go (is_within from count k) refl
  where
    go : (b : Bool) → is_within from count k ≡ b → is_some (cond b None (at m k)) ≡ is_within (from + count) (len - count) k
    go true e = let p = within_is from count k e in let low = p.0 in let high = p.1 in grind (arith, nat_tests)
    go false e = just k ∙ grind (arith, nat_tests)
