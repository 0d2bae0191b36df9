-- Records and their fields, as RFC 4180 has them: a record is a list of fields, and a field is a list of bytes.
use Rattle.std.specs.Prelude.{◌==◌, ℕ, Bool, List, [], length, slice_index_or}

-- the field of a record in a column, counted from 0; past the record's end it is empty
abbrev pub field_of : List (List ℕ) → ℕ → List ℕ
field_of row column = slice_index_or row column []

-- an empty field is null, quoted or not, as in PostgreSQL's COPY with FORCE_NULL
abbrev pub is_null : List ℕ → Bool
is_null field = length field == 0
