-- The key of a row: its fields of the columns to group by, and their encoding as one text.
use Rattle.std.specs.Prelude.{◌++◌, ℕ, List, length, map}
use Rattle.std.specs.Int.{to_le_bytes, w32}
use Rattle.std.specs.List.{concat}
use Rattle.par_model.specs.Plan.{Plan}
use Rattle.par_model.specs.Record.{field_of}

-- the fields to group by
abbrev pub columns_of : Plan → List (List ℕ) → List (List ℕ)
columns_of plan row = map (field_of row) plan.groups

-- a field after its length, which has 4 bytes, the lowest first
abbrev pub encoded_field : List ℕ → List ℕ
encoded_field field = to_le_bytes w32 (length field) ++ field

-- fields one after the other, each with its length, so that no two lists of fields have one encoding
unfoldable pub encoded : List (List ℕ) → List ℕ
encoded fields = concat (map encoded_field fields)

-- the encoded key of a row
abbrev pub key_of : Plan → List (List ℕ) → List ℕ
key_of plan row = encoded (columns_of plan row)
