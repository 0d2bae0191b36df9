-- The keys that occur in some rows.
use Rattle.std.proofs.Common.{◌≡◌, ◌<◌, ◌==◌, ◌∷◌, ◌∙◌, [], ap, refl, cond, arith, Bool, true, false, ◌&&◌, if◌then◌else◌, ℕ, zero, suc, List, Contains, Some, None, bytes_eq, filter, length, get_or}
use Rattle.std.proofs.Math.Dec.{eqb-suc-zero}
use Rattle.std.proofs.lemmas.Slice.Eq.{bytes_eq-Decides}
use Rattle.par_model.specs.Aggregate.{rows_of, state_of}
use Rattle.par_model.specs.Keep.{is_kept}
use Rattle.par_model.specs.Key.{key_of}
use Rattle.par_model.specs.Plan.{Plan}
use Rattle.par_model.specs.declared.state.AggState.{AggState}
use Rattle.partial_agg.specs.Groups.{group_of}
use Rattle.partial_agg.proofs.Entries.{behind}

-- an element passes both tests where the filter by both keeps one
pub some_both : {X : Type 0} (p q : X → Bool) (xs : List X) → 0 < length (filter (λ x. p x && q x) xs) → (x : X) × Contains (filter p xs) x × (q x ≡ true)
some_both p q [] some = absurd (omega arith)
some_both {X = X} p q (x ∷ xs) some = by (p x) (q x) refl refl (some_both p q xs)
  where
    by : (a b : Bool) → p x ≡ a → q x ≡ b → (0 < length (filter (λ x. p x && q x) xs) → (y : X) × Contains (filter p xs) y × (q y ≡ true)) → (y : X) × Contains (filter p (x ∷ xs)) y × (q y ≡ true)
    by true true e f later = (x, rw e (0, omega arith, refl), f)
    by true false e f later = let y = later (rw (e, f) at some) in (y.0, rw e (behind y.0 x (filter p xs) y.1), y.2)
    by false b e f later = let y = later (rw e at some) in (y.0, rw e y.1, y.2)

-- and the other way round
longer : {X : Type 0} (b : Bool) (x : X) (xs : List X) → 0 < length xs → 0 < length (cond b (x ∷ xs) xs)
longer true x xs some = omega arith
longer false x xs some = some

module _ {X : Type 0} (p q : X → Bool) (x : X) (passes : q x ≡ true) where
  abbrev rest : List X → List X
  rest xs = filter (λ x. p x && q x) xs

  one_place : (y : X) (xs : List X) (k : ℕ) (a : Bool) → p y ≡ a → k < length (cond a (y ∷ filter p xs) (filter p xs)) → get_or (cond a (y ∷ filter p xs) (filter p xs)) k x ≡ x
      → ((k : ℕ) → k < length (filter p xs) → get_or (filter p xs) k x ≡ x → 0 < length (rest xs)) → 0 < length (rest (y ∷ xs))
  one_place y xs zero true e lt is later = let f : q y ≡ true = ap q is ∙ passes in rw (e, f) (omega arith)
  one_place y xs (suc k) true e lt is later = longer (p y && q y) y (rest xs) (later k (omega arith) is)
  one_place y xs k false e lt is later = longer (p y && q y) y (rest xs) (later k lt is)

  at_place : (xs : List X) (k : ℕ) → k < length (filter p xs) → get_or (filter p xs) k x ≡ x → 0 < length (rest xs)
  at_place [] k lt is = absurd (omega arith)
  at_place (y ∷ xs) k lt is = one_place y xs k (p y) refl lt is (at_place xs)

pub both_some : {X : Type 0} (p q : X → Bool) (xs : List X) (x : X) → Contains (filter p xs) x → q x ≡ true → 0 < length (filter (λ x. p x && q x) xs)
both_some p q xs x has passes = at_place p q x passes xs has.0 has.1 has.2

-- a value that is there
chosen : {X : Type 0} (b : Bool) (x y : X) → (if b then None else Some x) ≡ Some y → (b ≡ false) × (y ≡ x)
chosen true x y h = cc
chosen false x y h = (refl, cc)

some_from : {X : Type 0} (xs : List X) → (length xs == 0) ≡ false → 0 < length xs
some_from [] h = cc
some_from (x ∷ xs) h = omega arith

none_from : {X : Type 0} (xs : List X) → 0 < length xs → (length xs == 0) ≡ false
none_from [] h = absurd (omega arith)
none_from (x ∷ xs) h = eqb-suc-zero (length xs)

-- the state of a key that occurs, and a row that has it
pub state_is : (plan : Plan) (rows : List (List (List ℕ))) (key : List ℕ) (state : AggState) → group_of plan rows key ≡ Some state → state ≡ state_of plan rows key
state_is plan rows key state is = (chosen _ (state_of plan rows key) state is).1

pub occurs : (plan : Plan) (rows : List (List (List ℕ))) (key : List ℕ) (state : AggState) → group_of plan rows key ≡ Some state
    → (row : List (List ℕ)) × Contains (filter (is_kept plan) rows) row × (key_of plan row ≡ key)
occurs plan rows key state is =
    let row = some_both (is_kept plan) (λ (row : List (List ℕ)). bytes_eq (key_of plan row) key) rows (some_from (rows_of plan rows key) (chosen _ (state_of plan rows key) state is).0) in
    (row.0, row.1, (bytes_eq-Decides (key_of plan row.0) key).0 row.2)

-- the key of a row that is kept occurs
pub row_occurs : (plan : Plan) (rows : List (List (List ℕ))) (row : List (List ℕ)) → Contains (filter (is_kept plan) rows) row → group_of plan rows (key_of plan row) ≡ Some (state_of plan rows (key_of plan row))
row_occurs plan rows row has =
    let some = both_some (is_kept plan) (λ (other : List (List ℕ)). bytes_eq (key_of plan other) (key_of plan row)) rows row has ((bytes_eq-Decides (key_of plan row) (key_of plan row)).1 refl) in
    ap (λ (b : Bool). if b then None else Some (state_of plan rows (key_of plan row))) (none_from (rows_of plan rows (key_of plan row)) some)
