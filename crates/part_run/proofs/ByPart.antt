-- Rows as they are carried, in lists by the parts of their keys.
use Rattle.std.proofs.Common.{◌≡◌, ◌<◌, ◌++◌, ◌==◌, ◌∙◌, ℕ, zero, suc, Bool, true, false, cond, List, [], ◌∷◌, All, None, filter, fold, get_or, length, map, replicate, set, refl, ap, sym, subst, arith, append-nil, append_assoc, get_or-set_other, get_or-set_same, length-set}
use Rattle.std.specs.List.{AllZip, position_from}
use Rattle.std.proofs.lemmas.Bool.{eq-eqb, eqb-true}
use Rattle.std.proofs.lemmas.List.{length-replicate, map-append}
use Rattle.std.proofs.lemmas.List.Elements.{All-head, All-tail, filter-append}
use Rattle.std.proofs.lemmas.List.Sums.{fold-append}
use Rattle.par_model.specs.Keep.{is_kept}
use Rattle.par_model.specs.Key.{key_of}
use Rattle.par_model.specs.Plan.{Plan}
use Rattle.par_model.specs.Refuse.{is_unreadable}
use Rattle.par_model.specs.declared.state.AggState.{AggState}
use Rattle.partial_agg.specs.Groups.{GroupsByKey, added, with_row as with_table_row, with_rows as with_table_rows}
use Rattle.partial_agg.specs.Rows.{IsAccepted}
use Rattle.partial_agg.specs.Values.{value_of, values_state}
use Rattle.partial_agg.proofs.OneRow.{state_of_one}
use Rattle.partial_agg.proofs.Refusals.{counted_is_readable}
use Rattle.row_blocks.specs.Blocks.{Table}
use Rattle.gather_law.specs.Shares.{rows_in, together}
use Rattle.row_lists.specs.Carried.{Carried}
use Rattle.row_lists.specs.Parts.{part_of, rows_of_part, with_row, with_rows}
use Rattle.part_run.specs.Carrying.{AreSpread, all_carried, carried_of, no_rows, spread, waiting_for, with_carried}

-- ---- one part of the lists

not_same : (a b : ℕ) → (a == b) ≡ false → b ≡ a → ⊥
not_same a b e same = let no : true ≡ false = sym (eq-eqb a b (sym same)) ∙ e in cc no

-- the list of a part after something was put to the end of another, or of its own
at_put : (lists : List (List Carried)) (row : Carried) (n part : ℕ) → part < length lists → (b : Bool) → (n == part) ≡ b
    → get_or (set lists n (get_or lists n [] ++ row ∷ [])) part [] ≡ get_or lists part [] ++ cond b (row ∷ []) []
at_put lists row n part low true e =
    subst (λ m. get_or (set lists m (get_or lists m [] ++ row ∷ [])) part [] ≡ get_or lists part [] ++ row ∷ []) (sym (eqb-true n part e))
    (get_or-set_same lists part (get_or lists part [] ++ row ∷ []) [] low)
at_put lists row n part low false e =
    get_or-set_other lists n part (get_or lists n [] ++ row ∷ []) [] (not_same n part e) ∙ sym (append-nil (get_or lists part []))

at_row : (lists : List (List Carried)) (row : Carried) (part : ℕ) → part < length lists → get_or (with_row lists row) part [] ≡ get_or lists part [] ++ cond (part_of row.key == part) (row ∷ []) []
at_row lists row part low = at_put lists row (part_of row.key) part low (part_of row.key == part) refl

more_of : (row : Carried) (rest : List Carried) (b : Bool) → cond b (row ∷ []) [] ++ rest ≡ cond b (row ∷ rest) rest
more_of row rest true = refl
more_of row rest false = refl

-- the list of a part has the rows of the part, after those that it had
pub at_part : (rows : List Carried) (lists : List (List Carried)) (part : ℕ) → part < length lists → get_or (with_rows lists rows) part [] ≡ get_or lists part [] ++ rows_of_part part rows
at_part [] lists part low = sym (append-nil (get_or lists part []))
at_part (row ∷ rows) lists part low =
    let next = with_row lists row in
    let long : length next ≡ length lists = length-set lists (part_of row.key) (get_or lists (part_of row.key) [] ++ row ∷ []) in
    let rest = rows_of_part part rows in
    let old = get_or lists part [] in
    at_part rows next part (subst (λ n. part < n) (sym long) low)
    ∙ ap (λ (l : List Carried). l ++ rest) (at_row lists row part low)
    ∙ append_assoc old (cond (part_of row.key == part) (row ∷ []) []) rest
    ∙ ap (λ (l : List Carried). old ++ l) (more_of row rest (part_of row.key == part))

none_at : (count part : ℕ) → ◌≡◌ {A = List Carried} (get_or (replicate count []) part []) []
none_at zero zero = refl
none_at zero (suc part) = refl
none_at (suc count) zero = refl
none_at (suc count) (suc part) = none_at count part

module _ (plan : Plan) where
  -- ---- rows after others

  pub carried-append : (xs ys : Table) → all_carried plan (xs ++ ys) ≡ all_carried plan xs ++ all_carried plan ys
  carried-append xs ys = ap (map (carried_of plan)) (filter-append (is_kept plan) xs ys) ∙ map-append (carried_of plan) (filter (is_kept plan) xs) (filter (is_kept plan) ys)

  pub spread-append : (lists : List (List Carried)) (xs ys : Table) → spread plan lists (xs ++ ys) ≡ spread plan (spread plan lists xs) ys
  spread-append lists xs ys = ap (with_rows lists) (carried-append xs ys) ∙ fold-append with_row lists (all_carried plan xs) (all_carried plan ys)

  -- ---- the rows of a part

  abbrev within : ℕ → List (List ℕ) → Bool
  within part row = part_of (key_of plan row) == part

  one_carried : (part : ℕ) (row : List (List ℕ)) (kept mine : Table) (b : Bool) → is_kept plan row ≡ b → (c : Bool) → within part row ≡ c
      → rows_of_part part (map (carried_of plan) kept) ≡ map (carried_of plan) (filter (is_kept plan) mine)
      → rows_of_part part (map (carried_of plan) (cond b (row ∷ kept) kept)) ≡ all_carried plan (cond c (row ∷ mine) mine)
  one_carried part row kept mine true e true d h =
      let rest = rows_of_part part (map (carried_of plan) kept) in
      ap (λ t. cond t (carried_of plan row ∷ rest) rest) d
      ∙ ap (λ (l : List Carried). carried_of plan row ∷ l) h
      ∙ ap (λ t. map (carried_of plan) (cond t (row ∷ filter (is_kept plan) mine) (filter (is_kept plan) mine))) (sym e)
  one_carried part row kept mine true e false d h =
      let rest = rows_of_part part (map (carried_of plan) kept) in
      ap (λ t. cond t (carried_of plan row ∷ rest) rest) d ∙ h
  one_carried part row kept mine false e true d h = h ∙ ap (λ t. map (carried_of plan) (cond t (row ∷ filter (is_kept plan) mine) (filter (is_kept plan) mine))) (sym e)
  one_carried part row kept mine false e false d h = h

  pub carried_of_part : (part : ℕ) (rows : Table) → rows_of_part part (all_carried plan rows) ≡ all_carried plan (rows_in plan part_of part rows)
  carried_of_part part [] = refl
  carried_of_part part (row ∷ rows) =
      one_carried part row (filter (is_kept plan) rows) (rows_in plan part_of part rows) (is_kept plan row) refl (within part row) refl (carried_of_part part rows)

  -- the list of a part carries the rows of the part
  spread_at : (rows : Table) (part : ℕ) → part < 256 → get_or (spread plan no_rows rows) part [] ≡ all_carried plan (rows_in plan part_of part rows)
  spread_at rows part low =
      let few : length no_rows ≡ 256 = length-replicate {A = List Carried} 256 [] in
      at_part (all_carried plan rows) no_rows part (omega (arith, few, low)) ∙ ap (λ (l : List Carried). l ++ rows_of_part part (all_carried plan rows)) (none_at 256 part) ∙ carried_of_part part rows

  -- what waits for a part
  pub waiting_is : (part : ℕ) → part < 256 → (shares : List Table) (lists : List (List (List Carried))) → AllZip (AreSpread plan) shares lists
      → waiting_for part lists ≡ all_carried plan (rows_in plan part_of part (together shares))
  waiting_is part low [] [] z = refl
  waiting_is part low [] (one ∷ lists) z = absurd z
  waiting_is part low (share ∷ shares) [] z = absurd z
  waiting_is part low (share ∷ shares) (one ∷ lists) z =
      let mine = rows_in plan part_of part share in
      let rest = rows_in plan part_of part (together shares) in
      ap (λ (l : List Carried). l ++ waiting_for part lists) (ap (λ (ls : List (List Carried)). get_or ls part []) z.0 ∙ spread_at share part low)
      ∙ ap (λ (l : List Carried). all_carried plan mine ++ l) (waiting_is part low shares lists z.1)
      ∙ sym (carried-append mine rest)
      ∙ ap (all_carried plan) (sym (filter-append (within part) share (together shares)))

  -- ---- carried rows come to the same as the rows

  one_adds : (width : ℕ) (row : List (List ℕ)) (kept : Table) (groups : GroupsByKey) → IsAccepted plan width row → (b : Bool) → is_kept plan row ≡ b
      → ((m : GroupsByKey) → with_carried m (map (carried_of plan) kept) ≡ fold (with_table_row plan) m kept)
      → with_carried groups (map (carried_of plan) (cond b (row ∷ kept) kept)) ≡ fold (with_table_row plan) groups (cond b (row ∷ kept) kept)
  one_adds width row kept groups fine true e rest =
      let readable : position_from (is_unreadable row) 0 plan.items ≡ None = counted_is_readable plan width row fine e in
      let one : added groups (key_of plan row) (values_state (map (value_of row) plan.items)) ≡ with_table_row plan groups row =
      ap (λ (s : AggState). added groups (key_of plan row) s) (sym (state_of_one plan row readable)) in
      ap (λ (m : GroupsByKey). with_carried m (map (carried_of plan) kept)) one ∙ rest (with_table_row plan groups row)
  one_adds width row kept groups fine false e rest = rest groups

  pub carried_adds : (width : ℕ) (rows : Table) (groups : GroupsByKey) → All (IsAccepted plan width) rows → with_carried groups (all_carried plan rows) ≡ with_table_rows plan groups rows
  carried_adds width [] groups h = refl
  carried_adds width (row ∷ rows) groups h =
      one_adds width row (filter (is_kept plan) rows) groups (All-head (IsAccepted plan width) row rows h) (is_kept plan row) refl (λ m. carried_adds width rows m (All-tail (IsAccepted plan width) row rows h))
