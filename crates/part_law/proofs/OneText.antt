-- A query over some records has one text.
use Rattle.std.proofs.Common.{◌≡◌, ◌<◌, ◌∙◌, ◌⊎◌, ℕ, zero, suc, List, [], ◌∷◌, length, map, refl, ap, sym, subst, inl, inr, arith}
use Rattle.std.specs.Prelude.{Contains, slice_index_or}
use Rattle.std.specs.List.{AllByRecursion}
use Rattle.std.specs.List.Sorted.{IsStrictlySortedBy}
use Rattle.std.specs.Cmp.{IsTotalOrder}
use Rattle.std.specs.Ordering.{ordering_reverse}
use Rattle.std.specs.declared.cmp.Ordering.{Ordering}
use Rattle.std.specs.declared.cmp.Ordering.TheVariants.{Less, Greater}
use Rattle.par_model.specs.Named.{bound_plan}
use Rattle.par_model.specs.Outcome.{IsAnswer}
use Rattle.par_model.specs.Table.{columns_cmp, group_record, table_header, table_text}
use Rattle.result_text.proofs.Columns.{columns_total}
use Rattle.part_law.specs.Law.{AnswersAgree}

module _ {K : Type 0} where
  at_cases : (y : K) (ys : List K) (x : K) (k : ℕ) → k < length (y ∷ ys) → slice_index_or (y ∷ ys) k x ≡ x → (y ≡ x) ⊎ Contains ys x
  at_cases y ys x zero lt is = inl is
  at_cases y ys x (suc k) lt is = inr (k, omega (arith, lt), is)

  -- an element of a list is its first, or one of the others
  cases : (y : K) (ys : List K) (x : K) → Contains (y ∷ ys) x → (y ≡ x) ⊎ Contains ys x
  cases y ys x h = at_cases y ys x h.0 h.1 h.2

  first : (y : K) (ys : List K) → Contains (y ∷ ys) y
  first y ys = (0, omega arith, refl)

  later : (y : K) (ys : List K) (x : K) → Contains ys x → Contains (y ∷ ys) x
  later y ys x h = (suc h.0, omega (arith, h.1), h.2)

  none : (x : K) → Contains [] x → ⊥
  none x h = omega (arith, h.1)

  each_at : (P : K → Type 0) (xs : List K) (x : K) (k : ℕ) → AllByRecursion P xs → k < length xs → slice_index_or xs k x ≡ x → P x
  each_at P [] x k h lt is = absurd (omega (arith, lt))
  each_at P (y ∷ xs) x zero h lt is = subst P is h.0
  each_at P (y ∷ xs) x (suc k) h lt is = each_at P xs x k h.1 (omega (arith, lt)) is

  each : (P : K → Type 0) (xs : List K) (x : K) → AllByRecursion P xs → Contains xs x → P x
  each P xs x h c = each_at P xs x c.0 h c.1 c.2

  module _ (c : K → K → Ordering) (t : IsTotalOrder c) where
    reversed : Less ≡ Greater → ⊥
    reversed e = cc e

    not_less : (x : K) → c x x ≡ Less → ⊥
    not_less x h = reversed (sym h ∙ t.antisymm x x ∙ ap ordering_reverse h)

    heads : (x y : K) (xs ys : List K) → IsStrictlySortedBy c (x ∷ xs) → IsStrictlySortedBy c (y ∷ ys) → Contains (y ∷ ys) x → Contains (x ∷ xs) y → x ≡ y
    unfolding IsStrictlySortedBy
    heads x y xs ys s r f g = elim (cases y ys x f) [
      | inl e ↦ sym e
      | inr a ↦ elim (cases x xs y g) [
        | inl e ↦ e
        | inr b ↦ absurd (not_less x (t.trans x y x (each (λ z. c x z ≡ Less) xs y s.0 b) (each (λ z. c y z ≡ Less) ys x r.0 a)))
      ]
    ]

    -- what stands behind the first is behind the first of the other list too
    behind : (x y : K) (xs ys : List K) (k : K) → IsStrictlySortedBy c (x ∷ xs) → x ≡ y → Contains xs k → Contains (y ∷ ys) k → Contains ys k
    unfolding IsStrictlySortedBy
    behind x y xs ys k s e a b = elim (cases y ys k b) [
      | inl same ↦ absurd (not_less x (subst (λ z. c x z ≡ Less) (sym (e ∙ same)) (each (λ z. c x z ≡ Less) xs k s.0 a)))
      | inr more ↦ more
    ]

    -- lists in strictly rising order with the same elements are the same
    same_rising : (xs ys : List K) → IsStrictlySortedBy c xs → IsStrictlySortedBy c ys → ((k : K) → Contains xs k → Contains ys k) → ((k : K) → Contains ys k → Contains xs k) → xs ≡ ys
    unfolding IsStrictlySortedBy
    same_rising [] [] s r f g = refl
    same_rising [] (y ∷ ys) s r f g = absurd (none y (g y (first y ys)))
    same_rising (x ∷ xs) [] s r f g = absurd (none x (f x (first x xs)))
    same_rising (x ∷ xs) (y ∷ ys) s r f g =
        let head : x ≡ y = heads x y xs ys s r (f x (first x xs)) (g y (first y ys)) in
        let rest : xs ≡ ys = same_rising xs ys s.1 r.1
        (λ k h. behind x y xs ys k s head h (f k (later x xs k h)))
        (λ k h. behind y x ys xs k r (sym head) h (g k (later y ys k h))) in
        ap (λ (z : K). z ∷ xs) head ∙ ap (λ (l : List K). y ∷ l) rest

pub answers_agree : AnswersAgree
unfolding IsAnswer
answers_agree names [] one other a b = absurd a
answers_agree names (header ∷ rows) one other a b =
    let plan = bound_plan header names in
    let one_table = a.1 in
    let other_table = b.1 in
    let groups : one_table.groups ≡ other_table.groups = same_rising columns_cmp columns_total one_table.groups other_table.groups one_table.each.rising other_table.each.rising
    (λ k h. (other_table.each.same k).1 ((one_table.each.same k).0 h))
    (λ k h. (one_table.each.same k).1 ((other_table.each.same k).0 h)) in
    let tables : a.0 ≡ b.0 = one_table.is ∙ ap (λ (l : List (List (List ℕ))). table_header names ∷ map (group_record plan rows) l) groups ∙ sym other_table.is in
    a.2 ∙ ap table_text tables ∙ sym b.2
