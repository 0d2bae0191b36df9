-- The rows that messages say, and the stream of no blocks.
use Rattle.std.proofs.Common.{◌≡◌, ◌<◌, ◌≤◌, ◌+◌, ◌*◌, ◌^◌, ℕ, zero, suc, List, [], ◌∷◌, length, drop, map, All, refl, ap₂, arith}
use Rattle.std.specs.List.Sorted.{IsPermutation}
use Rattle.std.proofs.lemmas.List.Elements.{All-append, All-drop, All-head, All-nil, All-push, All-tail, All-take, All-weaker}
use Rattle.std.proofs.lemmas.List.Sorted.{All-permutation, IsPermutation-refl}
use Rattle.std.proofs.lemmas.Nat.{from_le_bytes-to_le_bytes_8}
use Rattle.par_model.specs.Plan.{Plan}
use Rattle.partial_agg.specs.Rows.{IsAccepted, header_width}
use Rattle.scan_claim.specs.Drawing.{below}
use Rattle.row_blocks.specs.Blocks.{Table, block_numbers, numbers_of_blocks}
use Rattle.gather_merge.specs.Sent.{message_of, row_of}
use Rattle.gather_merge.specs.Streams.{IsStream}

pub no_stream : (plan : Plan) (records : Table) → IsStream plan (header_width records) records [] []
no_stream plan records = record { accepted = All-nil (IsAccepted plan (header_width records)); each = IsPermutation-refl []; rising = λ k d from l. absurd (omega (arith, l)) }

below_under : (n m : ℕ) → n ≤ m → All (λ r. r < m) (below n)
below_under zero m h = All-nil (λ r. r < m)
below_under (suc n) m h = All-push (λ r. r < m) (below n) n (below_under n m (omega (arith, h))) (omega (arith, h))

numbers_under : (records : Table) (draws : List ℕ) → All (λ r. r < length records) (numbers_of_blocks records draws)
numbers_under records [] = All-nil (λ r. r < length records)
numbers_under records (b ∷ draws) =
    All-append (λ r. r < length records) (block_numbers records b) (numbers_of_blocks records draws)
    (All-take (λ r. r < length records) 256 (drop (256 * b + 1) (below (length records))) (All-drop (λ r. r < length records) (256 * b + 1) (below (length records)) (below_under (length records) (length records) (omega arith))))
    (numbers_under records draws)

all_read : (rows : List ℕ) → All (λ r. r < 2 ^ 64) rows → map row_of (map message_of rows) ≡ rows
all_read [] h = refl
all_read (r ∷ rows) h =
    ap₂ (λ x xs. x ∷ xs) (from_le_bytes-to_le_bytes_8 r (All-head (λ x. x < 2 ^ 64) r rows h)) (all_read rows (All-tail (λ x. x < 2 ^ 64) r rows h))

pub read_rows : (records : Table) (draws rows : List ℕ) → length records < 2 ^ 63 → IsPermutation (numbers_of_blocks records draws) rows → map row_of (map message_of rows) ≡ rows
read_rows records draws rows few each =
    all_read rows (All-weaker (λ r. r < length records) (λ r. r < 2 ^ 64) (λ r h. omega (arith, h, few)) rows (All-permutation (λ r. r < length records) (numbers_of_blocks records draws) rows each (numbers_under records draws)))
