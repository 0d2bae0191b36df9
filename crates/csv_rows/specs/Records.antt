-- The records of comma-separated bytes.
use Rattle.std.specs.Prelude.{ℕ, List, [], get_or}
use Rattle.csv.specs.Reading.{default_config, records, strip_bom}

-- all the records of bytes, each the list of its fields, after a byte order mark: those that RFC 4180 gives, as the
-- crate csv states it, the first line being a record like any other and records being of any number of fields
abbrev pub records_of : List ℕ → List (List (List ℕ))
records_of bytes = records default_config (strip_bom bytes)

-- the record of this number; one that is not there is empty
abbrev pub record_at : List (List (List ℕ)) → ℕ → List (List ℕ)
record_at records row = get_or records row []

-- the field at this place of a record; one that is not there is empty
abbrev pub field_of : List (List (List ℕ)) → ℕ → ℕ → List ℕ
field_of records row at = get_or (record_at records row) at []
