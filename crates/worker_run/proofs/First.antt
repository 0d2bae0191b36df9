-- A refused row of a participant that is alone is the first that is refused.
use Rattle.std.proofs.Common.{◌≡◌, ◌≤◌, ◌+◌, ◌-◌, ◌*◌, ◌++◌, ℕ, suc, List, [], ◌∷◌, length, take, drop, All, ap, sym, subst, ◌∙◌, arith, length-append}
use Rattle.std.proofs.lemmas.List.{take-take}
use Rattle.std.proofs.lemmas.List.Elements.{All-append}
use Rattle.par_model.specs.Plan.{Plan}
use Rattle.partial_agg.specs.Rows.{IsAccepted, header_width}
use Rattle.row_blocks.specs.Blocks.{Table, block_rows, rows_of_blocks}
use Rattle.row_blocks.proofs.BlockRows.{block_of, rows_below, take_on}
use Rattle.scan_claim.specs.Drawing.{below}
use Rattle.worker_run.specs.Ended.{IsFirst}

last_same : (xs : List ℕ) (a b : ℕ) → xs ++ a ∷ [] ≡ xs ++ b ∷ [] → a ≡ b
last_same [] a b e = cc
last_same (x ∷ xs) a b e = last_same xs a b (let rest : xs ++ a ∷ [] ≡ xs ++ b ∷ [] = cc in rest)

-- the blocks before were drawn in order, and of this one the rows before are not refused
pub first_row : (plan : Plan) (records : Table) (draws draws' : List ℕ) (block row count : ℕ) → draws ≡ below (length draws) → draws' ≡ below (length draws') → draws' ≡ draws ++ block ∷ []
    → All (IsAccepted plan (header_width records)) (rows_of_blocks records draws) → row ≡ 256 * block + 1 + count → count ≤ 256 → All (IsAccepted plan (header_width records)) (take count (block_rows records block))
    → IsFirst plan records row
first_row plan records draws draws' block row count up up' more accepted at few before =
    let n = length draws in
    let longer : length draws' ≡ suc n = ap (λ l. length l) more ∙ length-append draws (block ∷ []) ∙ (let e : n + 1 ≡ suc n = omega arith in e) in
    let ends : draws ++ block ∷ [] ≡ draws ++ n ∷ [] = sym more ∙ up' ∙ ap below longer ∙ ap (λ l. l ++ n ∷ []) (sym up) in
    let is : block ≡ n = last_same draws block n ends in
    let rows = drop 1 records in
    let blocks : All (IsAccepted plan (header_width records)) (take (256 * block) rows) =
    subst (λ k. All (IsAccepted plan (header_width records)) (take (256 * k) rows)) (sym is)
    (subst (All (IsAccepted plan (header_width records))) (ap (rows_of_blocks records) up ∙ rows_below records n) accepted) in
    let front : take (256 * block + count) rows ≡ take (256 * block) rows ++ take count (block_rows records block) =
    cc (block_of records block, take-take count 256 (drop (256 * block) rows) (omega (arith, few)), take_on (256 * block) count rows) in
    let place : row - 1 ≡ 256 * block + count = omega (arith, at) in
    subst (λ k. All (IsAccepted plan (header_width records)) (take k rows)) (sym place)
    (subst (All (IsAccepted plan (header_width records))) (sym front) (All-append (IsAccepted plan (header_width records)) (take (256 * block) rows) (take count (block_rows records block)) blocks before))
