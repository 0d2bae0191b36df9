-- The rows of blocks: of one block, before a block, and of all blocks below a number.
use Rattle.std.proofs.Common.{◌≡◌, ◌<◌, ◌≤◌, ◌+◌, ◌*◌, ◌-◌, ◌++◌, ℕ, zero, suc, List, [], ◌∷◌, length, take, drop, get_or, refl, ap, sym, ◌∙◌, arith, append-nil, min, length-drop, length-take}
use Rattle.std.specs.List.{flat_map}
use Rattle.std.proofs.Math.Seq.{take-add}
use Rattle.std.proofs.lemmas.List.{drop-drop, get_or-drop, get_or-take, take-take, take_all}
use Rattle.std.proofs.lemmas.List.Concat.{flat_map-append}
use Rattle.csv_rows.specs.Records.{record_at}
use Rattle.scan_claim.specs.Drawing.{below}
use Rattle.row_blocks.specs.Blocks.{Table, block_rows, rows_of_blocks}

-- a front, and what comes next
pub take_on : {X : Type 0} (n m : ℕ) (xs : List X) → take n xs ++ take m (drop n xs) ≡ take (n + m) xs
take_on n m xs = sym (take-add n m xs)

-- ---- one block

pub length-block : (records : Table) (block : ℕ) → length (block_rows records block) ≡ min 256 (length records - (256 * block + 1))
length-block records block = length-take 256 (drop (256 * block + 1) records) ∙ ap (min 256) (length-drop (256 * block + 1) records)

-- a row of a block, by its place
pub row_at : (records : Table) (block at : ℕ) → at < 256 → get_or (block_rows records block) at [] ≡ record_at records (256 * block + 1 + at)
row_at records block at h = get_or-take 256 (drop (256 * block + 1) records) at [] h ∙ get_or-drop (256 * block + 1) records at []

-- behind a block's beginning a list is the same with and without its head
from_block : {X : Type 0} (xs : List X) (block : ℕ) → drop (256 * block) (drop 1 xs) ≡ drop (256 * block + 1) xs
from_block xs block = drop-drop (256 * block) 1 xs ∙ ap (λ (n : ℕ). drop n xs) (omega arith)

-- the rows of a block, among the rows without the header
pub block_of : (records : Table) (block : ℕ) → block_rows records block ≡ take 256 (drop (256 * block) (drop 1 records))
block_of records block = ap (take 256) (sym (from_block records block))

-- ---- the rows before a place

-- the rows before a place of a block are those before the block, and then the block's first
pub rows_before-place : (records : Table) (block count : ℕ) → count ≤ 256 → take (256 * block + count) (drop 1 records) ≡ take (256 * block) (drop 1 records) ++ take count (block_rows records block)
rows_before-place records block count h =
    let first : take count (drop (256 * block + 1) records) ≡ take count (block_rows records block) = sym (take-take count 256 (drop (256 * block + 1) records) h) in
    take-add (256 * block) count (drop 1 records) ∙ ap (λ (rest : Table). take (256 * block) (drop 1 records) ++ take count rest) (from_block records block) ∙ ap (λ (part : Table). take (256 * block) (drop 1 records) ++ part) first

-- 256 places from a block's beginning on, after those before it
next_block : {X : Type 0} (xs : List X) (block : ℕ) → take (256 * (block + 1)) (drop 1 xs) ≡ take (256 * block) (drop 1 xs) ++ take 256 (drop (256 * block + 1) xs)
next_block {X} xs block =
    let next : 256 * (block + 1) ≡ 256 * block + 256 = omega arith in
    ap (λ (n : ℕ). take n (drop 1 xs)) next ∙ take-add (256 * block) 256 (drop 1 xs) ∙ ap (λ (rest : List X). take (256 * block) (drop 1 xs) ++ take 256 rest) (from_block xs block)

-- the rows before the next block are those before it, and then the block's
pub rows_before-next : (records : Table) (block : ℕ) → take (256 * (block + 1)) (drop 1 records) ≡ take (256 * block) (drop 1 records) ++ block_rows records block
rows_before-next records block = next_block records block

-- ---- the blocks below a number

-- the blocks of a list below a number are its first places
pub cut_below : {X : Type 0} (xs : List X) (n : ℕ) → flat_map (λ b. take 256 (drop (256 * b + 1) xs)) (below n) ≡ take (256 * n) (drop 1 xs)
cut_below xs zero = refl
cut_below {X} xs (suc n) =
    let block : ℕ → List X = λ b. take 256 (drop (256 * b + 1) xs) in
    flat_map-append block (below n) (n ∷ []) ∙ ap (λ (l : List X). l ++ (block n ++ [])) (cut_below xs n)
    ∙ ap (λ (l : List X). take (256 * n) (drop 1 xs) ++ l) (append-nil (block n))
    ∙ sym (next_block xs n) ∙ ap (λ (m : ℕ). take m (drop 1 xs)) (let e : 256 * (n + 1) ≡ 256 * suc n = omega arith in e)

pub rows_below : (records : Table) (n : ℕ) → rows_of_blocks records (below n) ≡ take (256 * n) (drop 1 records)
rows_below records n = cut_below records n

-- so many blocks that they cover the rows have all rows
pub rows_all : (records : Table) (n : ℕ) → length records ≤ 256 * n + 1 → rows_of_blocks records (below n) ≡ drop 1 records
rows_all records n h = rows_below records n ∙ take_all (256 * n) (drop 1 records) (omega (arith, length-drop 1 records, h))
