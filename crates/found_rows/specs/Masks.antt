-- The bytes of a text that are commas, line feeds or quotes, and the masks by which they are found.
use Rattle.std.specs.Prelude.{◌≡◌, ◌↔◌, ◌<◌, ◌≤◌, ◌+◌, ◌==◌, ℕ, Bool, true, false, List, length, slice_index}
use Rattle.std.specs.Int.{bit_at}
use Rattle.csv_rows.specs.Splits.{is_separator}
use Rattle.found_rows.specs.declared.block.Block.{Block}

-- a byte is a quote
abbrev pub is_quote : ℕ → Bool
is_quote c = c == 34

-- the bits of a mask are those bytes that are of a kind, of the 64 from a place on
abbrev pub IsMaskOf : (ℕ → Bool) → List ℕ → ℕ → ℕ → Type 0
IsMaskOf is text at mask = (k : ℕ) → (bit_at mask k ≡ 1) ↔ ((k < 64) × (is (slice_index text (at + k)) ≡ true))

-- none of the bytes from a place up to another is of a kind
abbrev pub NoneIn : (ℕ → Bool) → List ℕ → ℕ → ℕ → Type 0
NoneIn is text from to = (j : ℕ) → from ≤ j → j < to → is (slice_index text j) ≡ false

-- this is the place of the first byte of a kind from a place on, or the end of the text
pub record IsFirst (is : ℕ → Bool) (text : List ℕ) (from at : ℕ) : Type 0 where
  pub low : from ≤ at
  pub high : at ≤ length text
  pub before : NoneIn is text from at
  pub here : at < length text → is (slice_index text at) ≡ true

-- 64 bytes of a text with their masks
pub record IsBlock (text : List ℕ) (b : Block) : Type 0 where
  pub within : b.base ≤ length text
  pub ends : IsMaskOf is_separator text b.base b.masks.ends
  pub quotes : IsMaskOf is_quote text b.base b.masks.quotes
