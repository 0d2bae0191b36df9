-- The text of a field as a table has it, and the field in it.
use Rattle.std.specs.Prelude.{◌≡◌, ◌==◌, ◌&&◌, ◌⊎◌, ℕ, Bool, false, List, [], ◌∷◌, if◌then◌else◌}
use Rattle.csv.specs.Writing.{default_writer, field_text, quoted}

-- the text of a field: as a writer writes it, or two quotes for an empty one
abbrev pub IsFieldText : List ℕ → List ℕ → Type 0
IsFieldText field text = (text ≡ field_text default_writer field) ⊎ ((field ≡ []) × (text ≡ quoted default_writer []))

-- bytes in which each quote is there twice, with each there once; the byte before them may have been the first of two
unfoldable pub once : Bool → List ℕ → List ℕ
once after_quote [] = []
once after_quote (byte ∷ rest) = if (byte == 34) && after_quote then once false rest else byte ∷ once (byte == 34) rest
