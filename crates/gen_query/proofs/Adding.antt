-- What is added up group by group is what is added up in one pass: each element has one key among different ones.
use Rattle.std.proofs.Common.{◌≡◌, ◌∙◌, ◌<◌, ◌+◌, ◌+ℤ◌, ◌∷◌, [], ℕ, ℤ, pos, zero, suc, Bool, true, false, List, All, Contains, bytes_eq, filter, get_or, length, map, refl, sym, ap, arith, inl, inr}
use Rattle.std.proofs.lemmas.Bool.{cases_Bool}
use Rattle.std.proofs.lemmas.Int.{ints}
use Rattle.std.proofs.lemmas.List.Elements.{All-head, All-tail}
use Rattle.std.proofs.lemmas.Slice.Eq.{bytes_eq-Decides}
use Rattle.std.specs.List.{AllByRecursion, IsDistinct}
use Rattle.std.specs.Prelude.{if◌then◌else◌}
use Rattle.par_model.specs.Aggregate.{total}
use Rattle.partial_agg.proofs.Ideal.{total-cons}

-- values that can be added in any order
pub record IsSum {V : Type 0} (o : V) (add : V → V → V) : Type 0 where
  pub unit : (a : V) → add o a ≡ a
  pub comm : (a b : V) → add a b ≡ add b a
  pub assoc : (a b c : V) → add (add a b) c ≡ add a (add b c)

module _ {V : Type 0} (o : V) (add : V → V → V) (s : IsSum o add) {X : Type 0} (key : X → List ℕ) (f : X → V) where
  unit_right : (a : V) → add a o ≡ a
  unit_right a = s.comm a o ∙ s.unit a

  crossed : (a b c d : V) → add (add a b) (add c d) ≡ add (add a c) (add b d)
  crossed a b c d =
      s.assoc a b (add c d) ∙ ap (λ (v : V). add a v) (sym (s.assoc b c d) ∙ ap (λ (v : V). add v d) (s.comm b c) ∙ s.assoc c b d) ∙ sym (s.assoc a c (add b d))

  abbrev one : Bool → X → V
  one b x = if b then f x else o

  -- all, those of one key, those of each of some keys, and what one element adds to them
  abbrev pub all : List X → V
  all [] = o
  all (x ∷ xs) = add (f x) (all xs)

  abbrev pub part : List ℕ → List X → V
  part k [] = o
  part k (x ∷ xs) = add (one (bytes_eq (key x) k) x) (part k xs)

  abbrev pub parts : List (List ℕ) → List X → V
  parts [] xs = o
  parts (k ∷ ks) xs = add (part k xs) (parts ks xs)

  abbrev hits : X → List (List ℕ) → V
  hits x [] = o
  hits x (k ∷ ks) = add (one (bytes_eq (key x) k) x) (hits x ks)

  parts_none : (ks : List (List ℕ)) → parts ks [] ≡ o
  parts_none [] = refl
  parts_none (k ∷ ks) = s.unit (parts ks []) ∙ parts_none ks

  parts_cons : (ks : List (List ℕ)) (x : X) (xs : List X) → parts ks (x ∷ xs) ≡ add (hits x ks) (parts ks xs)
  parts_cons [] x xs = sym (s.unit o)
  parts_cons (k ∷ ks) x xs =
      ap (λ (v : V). add (part k (x ∷ xs)) v) (parts_cons ks x xs) ∙ crossed (one (bytes_eq (key x) k) x) (part k xs) (hits x ks) (parts ks xs)

  -- no key of these is the element's
  misses : (x : X) (k : List ℕ) (ks : List (List ℕ)) → key x ≡ k → AllByRecursion (λ (y : List ℕ). bytes_eq k y ≡ false) ks → hits x ks ≡ o
  misses x k [] is h = refl
  misses x k (j ∷ ks) is h =
      let no : bytes_eq (key x) j ≡ false = ap (λ (i : List ℕ). bytes_eq i j) is ∙ h.0 in
      rw no (s.unit (hits x ks) ∙ misses x k ks is h.1)

  same_key : (k : List ℕ) → bytes_eq k k ≡ true
  same_key k = (bytes_eq-Decides k k).1 refl

  apart_at : (k : List ℕ) (ks : List (List ℕ)) (i : ℕ) (d : List ℕ) → AllByRecursion (λ (y : List ℕ). bytes_eq k y ≡ false) ks → i < length ks → bytes_eq k (get_or ks i d) ≡ false
  apart_at k [] i d h lt = absurd (omega arith)
  apart_at k (j ∷ ks) zero d h lt = h.0
  apart_at k (j ∷ ks) (suc i) d h lt = apart_at k ks i d h.1 (omega arith)

  other_key : (a b : List ℕ) → bytes_eq a b ≡ false → bytes_eq b a ≡ false
  other_key a b h = elim (cases_Bool (bytes_eq b a)) [
    | inl e ↦ let same = (bytes_eq-Decides b a).0 e in let no : true ≡ false = sym (same_key b) ∙ ap (λ (c : List ℕ). bytes_eq c b) same ∙ h in cc
    | inr e ↦ e
  ]

  -- one key of these is
  hit : (x : X) (ks : List (List ℕ)) (i : ℕ) → IsDistinct bytes_eq ks → i < length ks → get_or ks i (key x) ≡ key x → hits x ks ≡ f x
  unfolding IsDistinct
  hit x [] i apart lt is = absurd (omega arith)
  hit x (k ∷ ks) zero apart lt is =
      let yes : bytes_eq (key x) k ≡ true = ap (λ (j : List ℕ). bytes_eq (key x) j) is ∙ same_key (key x) in
      rw yes (ap (λ (v : V). add (f x) v) (misses x k ks (sym is) apart.0) ∙ unit_right (f x))
  hit x (k ∷ ks) (suc i) apart lt is =
      let there : bytes_eq k (get_or ks i (key x)) ≡ false = apart_at k ks i (key x) apart.0 (omega arith) in
      let no : bytes_eq (key x) k ≡ false = other_key k (key x) (ap (λ (j : List ℕ). bytes_eq k j) (sym is) ∙ there) in
      rw no (s.unit (hits x ks) ∙ hit x ks i apart.1 (omega arith) is)

  pub parts_are_all : (ks : List (List ℕ)) (xs : List X) → IsDistinct bytes_eq ks → All (λ (x : X). Contains ks (key x)) xs → parts ks xs ≡ all xs
  parts_are_all ks [] apart has = parts_none ks
  parts_are_all ks (x ∷ xs) apart has =
      let mine = All-head (λ (x : X). Contains ks (key x)) x xs has in
      let first : hits x ks ≡ f x = hit x ks mine.0 apart mine.1 mine.2 in
      parts_cons ks x xs ∙ ap (λ (v : V). add v (parts ks xs)) first
      ∙ ap (λ (v : V). add (f x) v) (parts_are_all ks xs apart (All-tail (λ (x : X). Contains ks (key x)) x xs has))

-- ---- how many, and the sum

pub counts : IsSum 0 (λ a b. a + b)
counts = record { unit = λ a. omega arith; comm = λ a b. omega arith; assoc = λ a b c. omega arith }

pub sums : IsSum (pos 0) (λ a b. a +ℤ b)
sums = record { unit = λ a. omega (arith, ints); comm = λ a b. omega (arith, ints); assoc = λ a b c. omega (arith, ints) }

module _ {X : Type 0} (key : X → List ℕ) (f : X → ℤ) where
  pub all_count : (xs : List X) → all 0 (λ a b. a + b) counts key (λ _. 1) xs ≡ length xs
  all_count [] = refl
  all_count (x ∷ xs) = omega (arith, all_count xs)

  pub all_sum : (xs : List X) → all (pos 0) (λ a b. a +ℤ b) sums key f xs ≡ total (map f xs)
  all_sum [] = refl
  all_sum (x ∷ xs) = ap (λ (v : ℤ). f x +ℤ v) (all_sum xs) ∙ sym (total-cons (f x) (map f xs))

  pub part_count : (k : List ℕ) (xs : List X) → part 0 (λ a b. a + b) counts key (λ _. 1) k xs ≡ length (filter (λ (x : X). bytes_eq (key x) k) xs)
  part_count k [] = refl
  part_count k (x ∷ xs) = elim (cases_Bool (bytes_eq (key x) k)) [
    | inl e ↦ rw e (omega (arith, part_count k xs))
    | inr e ↦ rw e (omega (arith, part_count k xs))
  ]

  pub part_sum : (k : List ℕ) (xs : List X) → part (pos 0) (λ a b. a +ℤ b) sums key f k xs ≡ total (map f (filter (λ (x : X). bytes_eq (key x) k) xs))
  part_sum k [] = refl
  part_sum k (x ∷ xs) = elim (cases_Bool (bytes_eq (key x) k)) [
    | inl e ↦ rw e (ap (λ (v : ℤ). f x +ℤ v) (part_sum k xs) ∙ sym (total-cons (f x) (map f (filter (λ (x : X). bytes_eq (key x) k) xs))))
    | inr e ↦ rw e (omega (arith, ints, part_sum k xs))
  ]
