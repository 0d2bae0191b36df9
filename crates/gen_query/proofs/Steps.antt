-- The text of the rows and the totals of groups, one at a time.
use Rattle.std.proofs.Common.{◌≡◌, ◌∙◌, ◌+◌, ◌++◌, ◌%◌, ◌+ℤ◌, ◌≤◌, ◌≤ℤ◌, ◌*◌, ◌^◌, neg_ℤ, ◌∷◌, [], ℕ, ℤ, pos, zero, suc, FitsSigned, of_z, to_z, subst, List, All, Some, append_assoc, append-nil, get_or, map, take, refl, sym, ap, arith}
use Rattle.std.proofs.lemmas.Int.{ints, to_z-of_z}
use Rattle.par_model.proofs.Folds.{fits128}
use Rattle.std.proofs.lemmas.List.Elements.{All-head, All-tail}
use Rattle.std.proofs.lemmas.List.Sums.{sum_by-cons}
use Rattle.std.specs.Fmt.{signed_decimal}
use Rattle.std.specs.Int.{w128}
use Rattle.std.specs.Prelude.{decimal, slice_get}
use Rattle.csv.specs.Writing.{default_writer, fields_text, is_blank, row_text}
use Rattle.par_model.specs.Aggregate.{no_values}
use Rattle.par_model.specs.Table.{table_text}
use Rattle.par_model.specs.declared.state.AggState.{AggState}
use Rattle.partial_agg.proofs.Ideal.{total-cons}
use Rattle.partial_agg.specs.declared.groups.Group.{Group}
use Rattle.gen_query.proofs.NumberRows.{row_is}
use Rattle.gen_query.specs.Generator.{generated, next_of, numbers, record_of, value_of}
use Rattle.gen_query.specs.Totals.{IsSmall, all_rows, all_sums, rows_of, sum_of}

-- the header, and then all rows
pub text_first : (seed count : ℕ) → 103 ∷ 44 ∷ 118 ∷ 10 ∷ table_text (map record_of (numbers seed count)) ≡ table_text (generated seed count)
unfolding table_text is_blank fields_text
text_first seed count = refl

-- one row, and then the others
pub text_more : (text : List ℕ) (x y n m : ℕ) → y ≡ next_of x → n ≡ suc m
    → (text ++ row_text default_writer (record_of y)) ++ table_text (map record_of (numbers y m)) ≡ text ++ table_text (map record_of (numbers x n))
unfolding table_text numbers
text_more text x y n m e s = rw (e, s) (append_assoc text (row_text default_writer (record_of (next_of x))) (table_text (map record_of (numbers (next_of x) m))))

-- no more rows
pub text_last : (text : List ℕ) (x n : ℕ) → n ≡ 0 → text ++ table_text (map record_of (numbers x n)) ≡ text
unfolding table_text numbers
text_last text x n e = rw e (append-nil text)

-- pieces, put one behind the other
pub joined : (text a b : List ℕ) → ((((text ++ 107 ∷ []) ++ a) ++ 44 ∷ []) ++ b) ++ 10 ∷ [] ≡ text ++ ((107 ∷ a) ++ (44 ∷ (b ++ 10 ∷ [])))
joined text a b =
    append_assoc (((text ++ 107 ∷ []) ++ a) ++ 44 ∷ []) b (10 ∷ []) ∙ append_assoc ((text ++ 107 ∷ []) ++ a) (44 ∷ []) (b ++ 10 ∷ [])
    ∙ append_assoc (text ++ 107 ∷ []) a (44 ∷ (b ++ 10 ∷ [])) ∙ append_assoc text (107 ∷ []) (a ++ (44 ∷ (b ++ 10 ∷ [])))

-- the row of a number
pub row_put : (t0 t1 t2 t3 t4 t5 a b : List ℕ) (x : ℕ) (v : ℤ) → t1 ≡ t0 ++ 107 ∷ [] → t2 ≡ t1 ++ a → t3 ≡ t2 ++ 44 ∷ [] → t4 ≡ t3 ++ b → t5 ≡ t4 ++ 10 ∷ []
    → a ≡ decimal (x % 1000) → b ≡ signed_decimal v → v ≡ value_of x → t5 ≡ t0 ++ row_text default_writer (record_of x)
row_put t0 t1 t2 t3 t4 t5 a b x v e1 e2 e3 e4 e5 ea eb ev =
    rw (e5, e4, e3, e2, e1, ea, eb, ev, row_is x) (joined t0 (decimal (x % 1000)) (signed_decimal (value_of x)))

-- before the first row, and after one more
pub text_starts : (t0 t1 : List ℕ) (seed count n : ℕ) → t0 ≡ [] → t1 ≡ t0 ++ 103 ∷ 44 ∷ 118 ∷ 10 ∷ [] → n ≡ count → t1 ++ table_text (map record_of (numbers seed n)) ≡ table_text (generated seed count)
text_starts t0 t1 seed count n e0 e1 e = rw (e1, e0, e) (text_first seed count)

pub text_grows : (t0 t1 whole : List ℕ) (x y n m : ℕ) → y ≡ next_of x → n ≡ suc m → t1 ≡ t0 ++ row_text default_writer (record_of y)
    → t0 ++ table_text (map record_of (numbers x n)) ≡ whole → t1 ++ table_text (map record_of (numbers y m)) ≡ whole
text_grows t0 t1 whole x y n m e s more is = rw more (text_more t0 x y n m e s ∙ is)

-- ---- totals

-- what one more group adds
pub record Adds (groups : List Group) (i next : ℕ) (state : AggState) : Type 0 where
  pub rows : all_rows (take next groups) ≡ all_rows (take i groups) + state.rows
  pub sums : all_sums (take next groups) ≡ all_sums (take i groups) +ℤ (get_or state.slots 1 no_values).sum
  pub few : state.rows ≤ 2 ^ 32
  pub low : neg_ℤ (pos (2 ^ 95)) ≤ℤ (get_or state.slots 1 no_values).sum
  pub high : (get_or state.slots 1 no_values).sum ≤ℤ pos (2 ^ 95)

pub adds : (groups : List Group) (i : ℕ) (state : AggState) → All IsSmall groups → slice_get (map (λ group. group.state) groups) i ≡ Some state → Adds groups i (suc i) state
adds [] i state small h = cc
adds (g ∷ gs) zero state small h =
    let one = All-head IsSmall g gs small in
    let same : g.state ≡ state = cc in
    rw (sym same) (record {
      rows = omega arith;
      sums = omega (arith, ints);
      few = one.rows;
      low = one.low;
      high = one.high;
    })
adds (g ∷ gs) (suc i) state small h =
    let rest = adds gs i state (All-tail IsSmall g gs small) h in
    let rows_now : all_rows (take (suc i) (g ∷ gs)) ≡ rows_of g + all_rows (take i gs) = sum_by-cons rows_of g (take i gs) in
    let rows_then : all_rows (take (suc (suc i)) (g ∷ gs)) ≡ rows_of g + all_rows (take (suc i) gs) = sum_by-cons rows_of g (take (suc i) gs) in
    let sums_now : all_sums (take (suc i) (g ∷ gs)) ≡ sum_of g +ℤ all_sums (take i gs) = total-cons (sum_of g) (map sum_of (take i gs)) in
    let sums_then : all_sums (take (suc (suc i)) (g ∷ gs)) ≡ sum_of g +ℤ all_sums (take (suc i) gs) = total-cons (sum_of g) (map sum_of (take (suc i) gs)) in
    record {
      rows = omega (arith, rows_now, rows_then, rest.rows);
      sums = omega (arith, ints, sums_now, sums_then, rest.sums);
      few = rest.few;
      low = rest.low;
      high = rest.high;
    }

pub adds_one : (groups : List Group) (i : ℕ) (state : AggState) → All IsSmall groups → slice_get (map (λ group. group.state) groups) i ≡ Some state → Adds groups i (i + 1) state
adds_one groups i state small h = let next : suc i ≡ i + 1 = omega arith in subst (λ (n : ℕ). Adds groups i n state) next (adds groups i state small h)

-- in numbers of 128 bits
pub record Fitting (bits : ℕ) (sum s : ℤ) : Type 0 where
  pub fits : FitsSigned w128 (to_z w128 bits +ℤ to_z w128 (of_z w128 s))
  pub is : to_z w128 (of_z w128 (to_z w128 bits +ℤ to_z w128 (of_z w128 s))) ≡ sum +ℤ s

pub fitting : (bits at : ℕ) (sum s : ℤ) → to_z w128 bits ≡ sum → at ≤ 2 ^ 23 → neg_ℤ (pos (at * 2 ^ 95)) ≤ℤ sum → sum ≤ℤ pos (at * 2 ^ 95) → neg_ℤ (pos (2 ^ 95)) ≤ℤ s → s ≤ℤ pos (2 ^ 95)
    → Fitting bits sum s
fitting bits at sum s is few low high s_low s_high =
    let same = to_z-of_z w128 s (fits128 s (omega (arith, ints, s_low)) (omega (arith, ints, s_high))) in
    let all : to_z w128 bits +ℤ to_z w128 (of_z w128 s) ≡ sum +ℤ s = λ i. is i +ℤ same i in
    let within = fits128 (sum +ℤ s) (omega (arith, ints, few, low, s_low)) (omega (arith, ints, few, high, s_high)) in
    record { fits = subst (FitsSigned w128) (sym all) within; is = ap (λ (z : ℤ). to_z w128 (of_z w128 z)) all ∙ to_z-of_z w128 (sum +ℤ s) within }
