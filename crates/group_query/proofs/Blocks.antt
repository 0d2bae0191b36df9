-- Which row of a table is the first that is refused, where the blocks before that of it are accepted.
use Rattle.std.proofs.Common.{◌≡◌, ◌+◌, ◌*◌, ◌<◌, ◌++◌, ℕ, List, ◌∷◌, Some, length, take, drop, arith, length-drop, length-take, subst, sym, take-append-drop}
use Rattle.std.proofs.lemmas.List.{drop-drop, drop-take, take-take}
use Rattle.std.proofs.lemmas.List.Elements.{All-append, All-same}
use Rattle.std.specs.List.{All}
use Rattle.csv_rows.specs.Records.{record_at}
use Rattle.par_model.specs.Plan.{Plan}
use Rattle.par_model.specs.Refuse.{refusal}
use Rattle.par_model.specs.declared.refusal.Refusal.{Refusal}
use Rattle.partial_agg.specs.Blocks.{Stopped}
use Rattle.partial_agg.specs.Groups.{GroupsByKey}
use Rattle.partial_agg.specs.declared.map.BlockAnswer.{BlockAnswer}
use Rattle.partial_agg.specs.declared.map.BlockAnswer.TheVariants as answer
use Rattle.partial_agg.specs.Rows.{IsAccepted, header_width}
use Rattle.row_blocks.specs.Blocks.{block_rows}
use Rattle.group_query.specs.Grouping.{NamesRefused}
use Rattle.table_query.specs.Refused.{refused_in}
use Rattle.table_query.proofs.RefusedRows.{refused_first}

-- a front, and what comes next
pub take_on : {X : Type 0} (n m : ℕ) (xs : List X) → take n xs ++ take m (drop n xs) ≡ take (n + m) xs
take_on n m xs = cc (take-take n (n + m) xs (omega arith), drop-take n m xs, take-append-drop n (take (n + m) xs))

-- the rows of a block, among the rows without the header
pub block_of : (records : List (List (List ℕ))) (block : ℕ) → block_rows records block ≡ take 256 (drop (256 * block) (drop 1 records))
block_of records block =
    let same : 256 * block + 1 ≡ 1 + 256 * block = omega arith in
    cc (same, drop-drop (256 * block) 1 records)

-- the rows up to a block and those of the block
pub block_more : (records : List (List (List ℕ))) (block : ℕ) → take (256 * block) (drop 1 records) ++ block_rows records block ≡ take (256 * (block + 1)) (drop 1 records)
block_more records block =
    let same : 256 * block + 256 ≡ 256 * (block + 1) = omega arith in
    cc (same, block_of records block, take_on (256 * block) 256 (drop 1 records))

-- a row of a block that is refused, where the rows before it are accepted
refused_in-first : (plan : Plan) (records : List (List (List ℕ))) (block count : ℕ) (why : Refusal) → count < 256 → 256 * block + 1 + count < length records
    → All (IsAccepted plan (header_width records)) (take (256 * block) (drop 1 records)) → All (IsAccepted plan (header_width records)) (take count (block_rows records block))
    → refusal plan (header_width records) (record_at records (256 * block + 1 + count)) ≡ Some why
    → (rest : List (ℕ × Refusal)) × (refused_in plan records ≡ (256 * block + 1 + count, why) ∷ rest)
refused_in-first plan records block count why small below before here is =
    let rows = drop 1 records in
    let n = 256 * block + count in
    let front : take n rows ≡ take (256 * block) rows ++ take count (block_rows records block) =
    cc (block_of records block, take-take count 256 (drop (256 * block) rows) (omega arith), take_on (256 * block) count rows) in
    let accepted : All (IsAccepted plan (header_width records)) (take n rows) = All-same (IsAccepted plan (header_width records)) _ _ front (All-append (IsAccepted plan (header_width records)) _ _ before here) in
    let place : n + 1 ≡ 256 * block + 1 + count = omega arith in
    let found = refused_first plan records n why (omega (arith, below)) accepted (subst (λ k. refusal plan (header_width records) (record_at records k) ≡ Some why) (sym place) is) in
    (found.0, subst (λ k. refused_in plan records ≡ (k, why) ∷ found.0) place found.1)

-- a block that stopped, where the blocks before it are accepted
pub NamesRefused-stopped : (plan : Plan) (records : List (List (List ℕ))) (block : ℕ) (old new : GroupsByKey) (why : BlockAnswer) → All (IsAccepted plan (header_width records)) (take (256 * block) (drop 1 records)) → Stopped plan records block old new why → NamesRefused plan records why
NamesRefused-stopped plan records block old new (answer.Row row cause item) before stopped =
    let said = stopped.explains in
    let within = stopped.stops in
    let long = length-take 256 (drop (256 * block + 1) records) in
    let found = refused_in-first plan records block stopped.count (record { cause = cause; item = item }) (omega (arith, long, within)) (omega (arith, long, within, length-drop (256 * block + 1) records)) before stopped.before.accepted said.1 in
    (found.0, rw said.0 found.1)
NamesRefused-stopped plan records block old new answer.Memory before stopped = tt
