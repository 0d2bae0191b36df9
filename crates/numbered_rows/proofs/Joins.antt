-- Pieces with a separator between two, put one after the other.
use Rattle.std.proofs.Common.{◌≡◌, ◌+◌, ◌∙◌, ◌∷◌, ◌++◌, [], Bool, ℕ, zero, suc, List, add-one, ap, append-nil, append_assoc, arith, length, sym}
use Rattle.std.specs.Prelude.{if◌then◌else◌}
use Rattle.std.proofs.lemmas.Bool.{ne_eqb}
use Rattle.std.proofs.lemmas.Grind.{flat_map-append}
use Rattle.std.proofs.lemmas.List.FromFn.{length-range_with_len}
use Rattle.std.specs.List.{flat_map, join_by, range_with_len}
use Rattle.numbered_rows.specs.Numbers.{lead}

lead-later : (n : ℕ) (sep : List ℕ) → lead (suc n) sep ≡ sep
lead-later n sep = ap (λ (b : Bool). if b then [] else sep) (ne_eqb (suc n) 0 (λ e. omega (arith, e)))

joins-snoc : {X : Type 0} (f : X → List ℕ) (sep : List ℕ) (xs : List X) (x : X) → join_by f sep (xs ++ x ∷ []) ≡ join_by f sep xs ++ (lead (length xs) sep ++ f x)
joins-snoc f sep [] x = append-nil (f x)
joins-snoc {X} f sep (y ∷ ys) x =
    let g : X → List ℕ = λ z. sep ++ f z in
    ap (λ (t : List ℕ). f y ++ t) (flat_map-append g ys (x ∷ []) ∙ ap (λ (t : List ℕ). flat_map g ys ++ t) (append-nil (sep ++ f x)))
    ∙ sym (append_assoc (f y) (flat_map g ys) (sep ++ f x)) ∙ ap (λ (t : List ℕ). (f y ++ flat_map g ys) ++ (t ++ f x)) (sym (lead-later (length ys) sep))

range-suc : (a n j : ℕ) → a + n ≡ j → range_with_len a (suc n) ≡ range_with_len a n ++ j ∷ []
range-suc a zero j is = let same : a ≡ j = omega (arith, is) in ap (λ (k : ℕ). k ∷ []) same
range-suc a (suc n) j is = let next : (a + 1) + n ≡ j = omega (arith, is) in ap (λ (t : List ℕ). a ∷ t) (range-suc (a + 1) n j next)

joins-range : (f : ℕ → List ℕ) (sep : List ℕ) (n : ℕ) → join_by f sep (range_with_len 0 (n + 1)) ≡ join_by f sep (range_with_len 0 n) ++ (lead n sep ++ f n)
joins-range f sep n =
    let start : 0 + n ≡ n = omega arith in
    ap (λ (k : ℕ). join_by f sep (range_with_len 0 k)) (add-one n) ∙ ap (join_by f sep) (range-suc 0 n n start) ∙ joins-snoc f sep (range_with_len 0 n) n
    ∙ ap (λ (k : ℕ). join_by f sep (range_with_len 0 n) ++ (lead k sep ++ f n)) (length-range_with_len 0 n)

-- a text, what was put after it, and two pieces more
grown : (start before mid after more one two : List ℕ) → mid ≡ before ++ one → after ≡ mid ++ two → before ≡ start ++ more → after ≡ start ++ (more ++ (one ++ two))
grown start before mid after more one two mid_is after_is before_is =
    after_is ∙ ap (λ (t : List ℕ). t ++ two) (mid_is ∙ ap (λ (t : List ℕ). t ++ one) before_is) ∙ append_assoc (start ++ more) one two ∙ append_assoc start more (one ++ two)

-- the piece of one place more
pub place-more : (f : ℕ → List ℕ) (sep : List ℕ) (n : ℕ) (start before mid after : List ℕ) → mid ≡ before ++ lead n sep → after ≡ mid ++ f n
    → before ≡ start ++ join_by f sep (range_with_len 0 n) → after ≡ start ++ join_by f sep (range_with_len 0 (n + 1))
place-more f sep n start before mid after mid_is after_is before_is =
    grown start before mid after (join_by f sep (range_with_len 0 n)) (lead n sep) (f n) mid_is after_is before_is ∙ ap (λ (t : List ℕ). start ++ t) (sym (joins-range f sep n))

-- no separator comes before the first piece
pub lead-none : (at : ℕ) (sep : List ℕ) → at ≡ 0 → lead at sep ≡ []
lead-none at sep is = ap (λ (n : ℕ). lead n sep) is

-- and one before each other
pub lead-some : (at : ℕ) (sep : List ℕ) → (at ≡ 0 → ⊥) → lead at sep ≡ sep
lead-some at sep other = ap (λ (b : Bool). if b then [] else sep) (ne_eqb at 0 other)
