-- Which rows of a table are refused, and which is the first.
use Rattle.std.proofs.Common.{[], ◌≡◌, ◌+◌, ◌-◌, ◌<◌, ◌≤◌, ◌++◌, ◌∙◌, ℕ, suc, List, ◌∷◌, Option, None, Some, Contains, length, take, drop, get_or, refl, ap, arith, length-drop, subst, take-append-drop}
use Rattle.std.proofs.lemmas.List.{drop_more, get_or-drop, length-take-le}
use Rattle.std.proofs.lemmas.List.Elements.{recursion_from_All}
use Rattle.std.specs.List.{All, AllByRecursion, enumerate_from, filter_map}
use Rattle.csv_rows.specs.Records.{record_at}
use Rattle.par_model.specs.Plan.{Plan}
use Rattle.par_model.specs.Refuse.{numbered_refusal, refusal, refused_rows}
use Rattle.par_model.specs.declared.refusal.Refusal.{Refusal}
use Rattle.partial_agg.specs.Rows.{IsAccepted, header_width}
use Rattle.table_query.specs.Refused.{refused_in}

-- rows that are accepted
accepted-none : (plan : Plan) (width n : ℕ) (xs : List (List (List ℕ))) → AllByRecursion (IsAccepted plan width) xs → filter_map (numbered_refusal plan width) (enumerate_from n xs) ≡ []
accepted-none plan width n [] accepted = refl
accepted-none plan width n (x ∷ xs) accepted = rw accepted.0 (accepted-none plan width (n + 1) xs accepted.1)

-- a row that is refused, behind rows that are accepted
refused-after : (plan : Plan) (width n : ℕ) (xs ys : List (List (List ℕ))) (row : List (List ℕ)) (why : Refusal) → AllByRecursion (IsAccepted plan width) xs → refusal plan width row ≡ Some why
    → (rest : List (ℕ × Refusal)) × (filter_map (numbered_refusal plan width) (enumerate_from n (xs ++ row ∷ ys)) ≡ (n + length xs, why) ∷ rest)
refused-after plan width n [] ys row why accepted is =
    let same : n + 0 ≡ n = omega arith in
    (filter_map (numbered_refusal plan width) (enumerate_from (n + 1) ys), rw (is, same) refl)
refused-after plan width n (x ∷ xs) ys row why accepted is =
    let later = refused-after plan width (n + 1) xs ys row why accepted.1 is in
    let same : n + length (x ∷ xs) ≡ n + 1 + length xs = omega arith in
    (later.0, rw (accepted.0, same) later.1)

-- a table whose rows are all accepted
pub refused_in-none : (plan : Plan) (records : List (List (List ℕ))) → All (IsAccepted plan (header_width records)) (drop 1 records) → refused_in plan records ≡ []
unfolding refused_rows
refused_in-none plan records accepted = accepted-none plan (header_width records) 1 (drop 1 records) (recursion_from_All _ _ accepted)

-- a table, cut at a row
cut_at : (records : List (List (List ℕ))) (n : ℕ) → n < length (drop 1 records) → take n (drop 1 records) ++ get_or (drop 1 records) n [] ∷ drop (n + 1) (drop 1 records) ≡ drop 1 records
cut_at records n short = cc (take-append-drop n (drop 1 records), drop_more (drop 1 records) n [] short)

-- a row that is refused, where all rows before it are accepted
pub refused_first : (plan : Plan) (records : List (List (List ℕ))) (n : ℕ) (why : Refusal) → n + 1 < length records → All (IsAccepted plan (header_width records)) (take n (drop 1 records))
    → refusal plan (header_width records) (record_at records (n + 1)) ≡ Some why → (rest : List (ℕ × Refusal)) × (refused_in plan records ≡ (n + 1, why) ∷ rest)
unfolding refused_rows
refused_first plan records n why within accepted is =
    let rows = drop 1 records in
    let width = header_width records in
    let short : n < length rows = omega (arith, length-drop 1 records) in
    let place : n + 1 ≡ 1 + n = omega arith in
    let row : get_or rows n [] ≡ record_at records (n + 1) = rw place (get_or-drop 1 records n []) in
    let found = refused-after plan width 1 (take n rows) (drop (n + 1) rows) (get_or rows n []) why (recursion_from_All _ _ accepted) (ap (refusal plan width) row ∙ is) in
    let at : 1 + length (take n rows) ≡ n + 1 = omega (arith, length-take-le n rows (omega arith)) in
    let refused : List (List (List ℕ)) → List (ℕ × Refusal) = λ l. filter_map (numbered_refusal plan width) (enumerate_from 1 l) in
    let whole : refused rows ≡ (1 + length (take n rows), why) ∷ found.0 = subst (λ (l : List (List (List ℕ))). refused l ≡ (1 + length (take n rows), why) ∷ found.0) (cut_at records n short) found.1 in
    (found.0, subst (λ (k : ℕ). refused rows ≡ (k, why) ∷ found.0) at whole)

-- a row that is refused, behind any rows
refused-there : (plan : Plan) (width n : ℕ) (xs ys : List (List (List ℕ))) (row : List (List ℕ)) (why : Refusal) → refusal plan width row ≡ Some why
    → Contains (filter_map (numbered_refusal plan width) (enumerate_from n (xs ++ row ∷ ys))) (n + length xs, why)
refused-there plan width n [] ys row why is =
    let same : n + 0 ≡ n = omega arith in
    rw (is, same) (0, omega arith, refl)
refused-there plan width n (x ∷ xs) ys row why is =
    let later = refused-there plan width (n + 1) xs ys row why is in
    let same : n + 1 + length xs ≡ n + length (x ∷ xs) = omega arith in
    by (refusal plan width x) refl (subst (λ k. Contains (filter_map (numbered_refusal plan width) (enumerate_from (n + 1) (xs ++ row ∷ ys))) (k, why)) same later)
  where
    by : (r : Option Refusal) → refusal plan width x ≡ r → Contains (filter_map (numbered_refusal plan width) (enumerate_from (n + 1) (xs ++ row ∷ ys))) (n + length (x ∷ xs), why)
        → Contains (filter_map (numbered_refusal plan width) (enumerate_from n ((x ∷ xs) ++ row ∷ ys))) (n + length (x ∷ xs), why)
    by None e c = rw e c
    by (Some r) e c = rw e (suc c.0, omega (arith, c.1), c.2)

-- each refused row is among those of the table
pub refused_in-has : (plan : Plan) (records : List (List (List ℕ))) (row : ℕ) (why : Refusal) → 1 ≤ row → row < length records → refusal plan (header_width records) (record_at records row) ≡ Some why
    → Contains (refused_in plan records) (row, why)
unfolding refused_rows
refused_in-has plan records row why some within is =
    let rows = drop 1 records in
    let n = row - 1 in
    let width = header_width records in
    let short : n < length rows = omega (arith, length-drop 1 records) in
    let place : 1 + n ≡ row = omega arith in
    let at : get_or rows n [] ≡ record_at records row = subst (λ k. get_or rows n [] ≡ record_at records k) place (get_or-drop 1 records n []) in
    let there = refused-there plan width 1 (take n rows) (drop (n + 1) rows) (get_or rows n []) why (ap (refusal plan width) at ∙ is) in
    let number : 1 + length (take n rows) ≡ row = omega (arith, length-take-le n rows (omega arith)) in
    let refused : List (List (List ℕ)) → List (ℕ × Refusal) = λ l. filter_map (numbered_refusal plan width) (enumerate_from 1 l) in
    subst (λ k. Contains (refused rows) (k, why)) number (subst (λ (l : List (List (List ℕ))). Contains (refused l) (1 + length (take n rows), why)) (cut_at records n short) there)
