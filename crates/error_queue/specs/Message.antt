-- The messages of a worker's error queue as bytes, in the manner of parallel.c: the first byte gives the kind, and each
-- number after it is stored lowest byte first.
use Rattle.std.specs.Prelude.{◌<◌, ◌^◌, ◌==◌, if◌then◌else◌, ℕ, List, [], ◌∷◌, ◌++◌, length, Option, Some, None}
use Rattle.std.specs.Int.{w32, w64, to_le_bytes}
use Rattle.error_queue.specs.declared.ErrorMessage.{ErrorMessage}
use Rattle.error_queue.specs.declared.ErrorMessage.TheVariants as message
use Rattle.error_queue.specs.declared.ErrorRead.{ErrorRead}
use Rattle.error_queue.specs.declared.ErrorRead.TheVariants as refused

-- the bytes `E` and `X`
abbrev pub row_tag : ℕ
row_tag = 69

abbrev pub end_tag : ℕ
end_tag = 88

-- `E`, the bytes of a row, a cause and the bytes of an item
abbrev pub row_bytes : List ℕ → ℕ → List ℕ → List ℕ
row_bytes row cause item = (row_tag ∷ (row ++ cause ∷ [])) ++ item

-- a message as bytes: `E`, the row in 8 bytes, the cause in one and the item in 4; or only `X`
abbrev pub encoding : ErrorMessage → List ℕ
encoding (message.Row row cause item) = row_bytes (to_le_bytes w64 row) cause (to_le_bytes w32 item)
encoding message.End = end_tag ∷ []

-- a message of its type: its numbers are in range
abbrev pub IsMessage : ErrorMessage → Type 0
IsMessage (message.Row row cause item) = (row < 2 ^ 64) × (cause < 2 ^ 8) × (item < 2 ^ 32)
IsMessage message.End = Unit {0}

-- the length of each kind of message
abbrev pub row_length : ℕ
row_length = 14

abbrev pub end_length : ℕ
end_length = 1

-- why bytes of this length are no message of a kind that has that length
abbrev pub length_refusal : ℕ → ℕ → Option ErrorRead
length_refusal wanted found = if found == wanted then None else Some (refused.Length found)

-- why bytes are no message: no byte, a first byte that is no kind, a length that is not the kind's
abbrev pub refusal : List ℕ → Option ErrorRead
refusal [] = Some (refused.Length 0)
refusal (tag ∷ rest) =
    if tag == row_tag then length_refusal row_length (length (tag ∷ rest))
    else (if tag == end_tag then length_refusal end_length (length (tag ∷ rest))
    else Some (refused.Tag tag))
