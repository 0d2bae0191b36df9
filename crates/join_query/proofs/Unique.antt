-- There is one outcome.
use Rattle.std.proofs.Common.{◌≡◌, ◌⊎◌, ◌<◌, ◌≤◌, ◌∙◌, ℕ, Bool, true, false, List, Option, None, Some, inl, inr, length, subst, sym, ap, arith, refl}
use Rattle.csv_rows.specs.Records.{record_at}
use Rattle.row_blocks.specs.Blocks.{Table}
use Rattle.join_pairs.specs.Join.{AllAccepted, IsAccepted, IsFirstRefused, IsNamed, IsRefused}
use Rattle.par_model.specs.Named.{column_of}
use Rattle.join_query.specs.Outcome.{Outcome, Fails, IsCut, IsOfBytes, IsOfColumns, IsOfCut, IsOfRight, IsOfRows, IsOfSizes, IsOfTables, IsOutcome, left_of, right_of}
use Rattle.join_query.specs.Words.{Asked}
use Rattle.join_query.specs.declared.cause.Cause.TheVariants as cause
use Rattle.join_query.proofs.Cuts.{below_or}

-- two numbers of which neither is below the other
equal : (n k : ℕ) → (n < k → ⊥) → (k < n → ⊥) → n ≡ k
equal n k fits other = elim (below_or k n) [ inl lt ↦ absurd (fits lt) | inr le ↦ elim (below_or n k) [ inl lt ↦ absurd (other lt) | inr ge ↦ omega (arith, le, ge) ] ]

-- ---- the place where bytes are cut

same_cut : (bytes : List ℕ) (a b : Option ℕ) → IsCut bytes a → IsCut bytes b → a ≡ b
same_cut bytes None None x y = refl
same_cut bytes None (Some k) x y = absurd (x k y.0.low y.0.high y.1)
same_cut bytes (Some k) None x y = absurd (y k x.0.low x.0.high x.1)
same_cut bytes (Some i) (Some j) x y = ap Some (equal i j (λ lt. y.0.before i x.0.low lt x.1) (λ lt. x.0.before j y.0.low lt y.1))

-- ---- refused rows

accepted : (records : Table) (column row why : ℕ) → IsAccepted records column row → IsRefused records column row why → ⊥
accepted records column row why is refused = elim refused [ inl wide ↦ wide.1 is.width | inr long ↦ let short = is.short in let over = long.2 in omega (arith, short, over) ]

same_cause : (records : Table) (column row why other : ℕ) → IsRefused records column row why → IsRefused records column row other → why ≡ other
same_cause records column row why other a b = elim a [
  | inl wide ↦ elim b [ inl same ↦ wide.0 ∙ sym same.0 | inr long ↦ absurd (wide.1 long.1) ]
  | inr long ↦ elim b [ inl wide ↦ absurd (wide.1 long.1) | inr same ↦ long.0 ∙ sym same.0 ]
]

same_row : (records : Table) (column r s why other : ℕ) → IsFirstRefused records column r why → IsFirstRefused records column s other → r ≡ s
same_row records column r s why other a b =
    equal r s (λ lt. accepted records column r why (b.before r a.is_row.0 lt) a.refused) (λ lt. accepted records column s other (a.before s b.is_row.0 lt) b.refused)

same_first : (of_right : Bool) (records : Table) (column r s why other : ℕ) → IsFirstRefused records column r why → IsFirstRefused records column s other
    → Fails (cause.Refused of_right r why) ≡ Fails (cause.Refused of_right s other)
same_first of_right records column r s why other a b =
    let rows : r ≡ s = same_row records column r s why other a b in
    let whys : why ≡ other = same_cause records column s why other (subst (λ (row : ℕ). IsRefused records column row why) rows a.refused) b.refused in
    rw (rows, whys) refl

none_first : (records : Table) (column row why : ℕ) → AllAccepted records column → IsFirstRefused records column row why → ⊥
none_first records column row why all first = accepted records column row why (all row first.is_row) first.refused

-- ---- two tables

module _ (left right : Table) where
  same_named : (l r : ℕ) (s t : Bool) (row other why also : ℕ) → IsNamed left right l r s row why → IsNamed left right l r t other also → Fails (cause.Refused s row why) ≡ Fails (cause.Refused t other also)
  same_named l r false false row other why also a b = same_first false left l row other why also a b
  same_named l r false true row other why also a b = absurd (none_first left l row why b.0 a)
  same_named l r true false row other why also a b = absurd (none_first left l other also a.0 b)
  same_named l r true true row other why also a b = same_first true right r row other why also a.1 b.1

  none_named : (l r : ℕ) (s : Bool) (row why : ℕ) → AllAccepted left l → AllAccepted right r → IsNamed left right l r s row why → ⊥
  none_named l r false row why of_left of_right is = none_first left l row why of_left is
  none_named l r true row why of_left of_right is = none_first right r row why of_right is.1

  one_of_rows : (l r : ℕ) (o p : Outcome) → IsOfRows left right l r o → IsOfRows left right l r p → o ≡ p
  one_of_rows l r o p a b = elim a [
    | inl named ↦ elim b [
      | inl other ↦ named.4 ∙ same_named l r named.0 other.0 named.1 other.1 named.2 other.2 named.3 other.3 ∙ sym other.4
      | inr all ↦ absurd (none_named l r named.0 named.1 named.2 all.0 all.1 named.3)
    ]
    | inr all ↦ elim b [
      | inl named ↦ absurd (none_named l r named.0 named.1 named.2 all.0 all.1 named.3)
      | inr other ↦ all.2 ∙ sym other.2
    ]
  ]

  module _ (name : List ℕ) where
    one_of_columns : (l r : Option ℕ) (o p : Outcome) → IsOfColumns left right name l r o → IsOfColumns left right name l r p → o ≡ p
    one_of_columns None r o p a b = a ∙ sym b
    one_of_columns (Some l) None o p a b = a ∙ sym b
    one_of_columns (Some l) (Some r) o p a b = one_of_rows l r o p a b

    few : length left ≤ 4194305 → length right ≤ 4194305 → (4194305 < length left) ⊎ (4194305 < length right) → ⊥
    few l r many = elim many [ inl m ↦ omega (arith, l, m) | inr m ↦ omega (arith, r, m) ]

    one_of_sizes : (o p : Outcome) → IsOfSizes left right name o → IsOfSizes left right name p → o ≡ p
    one_of_sizes o p a b = elim a [
      | inl many ↦ elim b [ inl other ↦ many.1 ∙ sym other.1 | inr other ↦ absurd (few other.0 other.1 many.0) ]
      | inr some ↦ elim b [
        | inl many ↦ absurd (few some.0 some.1 many.0)
        | inr other ↦ one_of_columns (column_of (record_at left 0) name) (column_of (record_at right 0) name) o p some.2 other.2
      ]
    ]

    one_of_right : (o p : Outcome) → IsOfRight left right name o → IsOfRight left right name p → o ≡ p
    one_of_right o p a b = elim a [
      | inl none ↦ elim b [ inl other ↦ none.1 ∙ sym other.1 | inr some ↦ let n = none.0 in let s = some.0 in absurd (omega (arith, n, s)) ]
      | inr some ↦ elim b [ inl none ↦ let n = none.0 in let s = some.0 in absurd (omega (arith, n, s)) | inr other ↦ one_of_sizes o p some.1 other.1 ]
    ]

    one_of_tables : (o p : Outcome) → IsOfTables left right name o → IsOfTables left right name p → o ≡ p
    one_of_tables o p a b = elim a [
      | inl none ↦ elim b [ inl other ↦ none.1 ∙ sym other.1 | inr some ↦ let n = none.0 in let s = some.0 in absurd (omega (arith, n, s)) ]
      | inr some ↦ elim b [ inl none ↦ let n = none.0 in let s = some.0 in absurd (omega (arith, n, s)) | inr other ↦ one_of_right o p some.1 other.1 ]
    ]

-- ---- bytes

one_of_cut : (name bytes : List ℕ) (place : Option ℕ) (o p : Outcome) → IsOfCut name bytes place o → IsOfCut name bytes place p → o ≡ p
one_of_cut name bytes None o p a b = a ∙ sym b
one_of_cut name bytes (Some place) o p a b = one_of_tables (left_of bytes place) (right_of bytes place) name o p a b

one_of_bytes : (name bytes : List ℕ) (o p : Outcome) → IsOfBytes name bytes o → IsOfBytes name bytes p → o ≡ p
one_of_bytes name bytes o p a b =
    one_of_cut name bytes b.0 o p (subst (λ (place : Option ℕ). IsOfCut name bytes place o) (same_cut bytes a.0 b.0 a.1 b.1) a.2) b.2

pub one_outcome : (asked : Option Asked) (bytes : List ℕ) (o p : Outcome) → IsOutcome asked bytes o → IsOutcome asked bytes p → o ≡ p
one_outcome None bytes o p a b = a ∙ sym b
one_outcome (Some asked) bytes o p a b = elim a [
  | inl many ↦ elim b [ inl other ↦ many.1 ∙ sym other.1 | inr some ↦ let n = many.0 in let s = some.0 in absurd (omega (arith, n, s)) ]
  | inr some ↦ elim b [ inl many ↦ let n = many.0 in let s = some.0 in absurd (omega (arith, n, s)) | inr other ↦ one_of_bytes asked.column bytes o p some.1 other.1 ]
]
