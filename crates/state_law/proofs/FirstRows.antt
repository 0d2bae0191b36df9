-- The first refused row of rows in parts.
use Rattle.std.proofs.Common.{◌≡◌, ◌+◌, ◌++◌, ◌∙◌, ℕ, List, [], ◌∷◌, All, None, Option, Some, ap, arith, length, map, refl, sym}
use Rattle.std.specs.Prelude.{option_map}
use Rattle.std.specs.List.{cons_option, enumerate_from, filter_map}
use Rattle.std.proofs.lemmas.List.Elements.{All-cons, All-nil, filter_map-append}
use Rattle.par_model.specs.Plan.{Plan}
use Rattle.par_model.specs.Refuse.{numbered_refusal, refusal, refused_rows}
use Rattle.par_model.specs.declared.refusal.Refusal.{Refusal}
use Rattle.partial_agg.specs.Rows.{IsAccepted}
use Rattle.row_blocks.specs.Blocks.{Table}

-- a refused row, counted from a later one on
abbrev pub later_by : ℕ → ℕ × Refusal → ℕ × Refusal
later_by k r = (r.0 + k, r.1)

enumerate_apart : (n : ℕ) (xs ys : Table) → enumerate_from n (xs ++ ys) ≡ enumerate_from n xs ++ enumerate_from (n + length xs) ys
enumerate_apart n [] ys = ap (λ (k : ℕ). enumerate_from k ys) (omega arith)
enumerate_apart n (x ∷ xs) ys =
    let same : n + 1 + length xs ≡ n + length (x ∷ xs) = omega arith in
    ap (λ (l : List (ℕ × List (List ℕ))). (n, x) ∷ l) (enumerate_apart (n + 1) xs ys ∙ ap (λ (k : ℕ). enumerate_from (n + 1) xs ++ enumerate_from k ys) same)

module _ (plan : Plan) (width : ℕ) where
  abbrev refused_from : ℕ → Table → List (ℕ × Refusal)
  refused_from n rows = filter_map (numbered_refusal plan width) (enumerate_from n rows)

  -- a row more in front
  abbrev with_refusal : Option Refusal → ℕ → List (ℕ × Refusal) → List (ℕ × Refusal)
  with_refusal None n more = more
  with_refusal (Some why) n more = (n, why) ∷ more

  one_more : (n : ℕ) (x : List (List ℕ)) (rows : Table) → refused_from n (x ∷ rows) ≡ with_refusal (refusal plan width x) n (refused_from (n + 1) rows)
  one_more n x rows = go (refusal plan width x) (refused_from (n + 1) rows)
    where
      go : (o : Option Refusal) (more : List (ℕ × Refusal)) → cons_option (option_map (λ cause. (n, cause)) o) more ≡ with_refusal o n more
      go None more = refl
      go (Some why) more = refl

  moved : (k n : ℕ) (rows : Table) → refused_from (n + k) rows ≡ map (later_by k) (refused_from n rows)
  moved k n [] = refl
  moved k n (x ∷ rows) =
      let same : n + k + 1 ≡ n + 1 + k = omega arith in
      one_more (n + k) x rows
      ∙ ap (with_refusal (refusal plan width x) (n + k)) (ap (λ (j : ℕ). refused_from j rows) same ∙ moved k (n + 1) rows)
      ∙ go (refusal plan width x) (refused_from (n + 1) rows)
      ∙ sym (ap (map (later_by k)) (one_more n x rows))
    where
      go : (o : Option Refusal) (more : List (ℕ × Refusal)) → with_refusal o (n + k) (map (later_by k) more) ≡ map (later_by k) (with_refusal o n more)
      go None more = refl
      go (Some why) more = refl

  -- the refused rows of two lists of rows: those of the first, and those of the second, counted on
  pub refused_apart : (xs ys : Table) → refused_rows plan width (xs ++ ys) ≡ refused_rows plan width xs ++ map (later_by (length xs)) (refused_rows plan width ys)
  unfolding refused_rows
  refused_apart xs ys =
      ap (filter_map (numbered_refusal plan width)) (enumerate_apart 1 xs ys)
      ∙ filter_map-append (numbered_refusal plan width) (enumerate_from 1 xs) (enumerate_from (1 + length xs) ys)
      ∙ ap (λ (l : List (ℕ × Refusal)). refused_from 1 xs ++ l) (moved (length xs) 1 ys)

  all_accepted_from : (n : ℕ) (rows : Table) → refused_from n rows ≡ [] → All (IsAccepted plan width) rows
  all_accepted_from n [] none = All-nil (IsAccepted plan width)
  all_accepted_from n (x ∷ rows) none =
      let split = go (refusal plan width x) (refused_from (n + 1) rows) (sym (one_more n x rows) ∙ none) in
      All-cons (IsAccepted plan width) x rows split.0 (all_accepted_from (n + 1) rows split.1)
    where
      go : (o : Option Refusal) (more : List (ℕ × Refusal)) → with_refusal o n more ≡ [] → (o ≡ None) × (more ≡ [])
      go None more e = (refl, e)
      go (Some why) more e = absurd (omega (arith, ap length e))

  -- if no row is refused, each is accepted
  pub all_accepted : (rows : Table) → refused_rows plan width rows ≡ [] → All (IsAccepted plan width) rows
  unfolding refused_rows
  all_accepted rows none = all_accepted_from 1 rows none
