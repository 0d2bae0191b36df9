-- How the fields of a text are read.
use Rattle.std.specs.Prelude.{◌≡◌, ◌≢◌, ◌<◌, ◌==◌, ◌&&◌, ◌-◌, ℕ, Bool, false, not, List, [], bytes_eq, drop, if◌then◌else◌, length, map, take}
use Rattle.std.specs.Char.{is_ascii_whitespace}
use Rattle.std.specs.List.{list_any, prefix_len, slice_split, suffix_len}
use Rattle.csv.specs.Reading.{default_config, records, strip_bom}
use Rattle.csv.specs.declared.parser.Config.{Config}
use Rattle.csv_rows.specs.Records.{records_of}
use Rattle.csv_rows.specs.declared.cleaning.Reading.{Reading}

-- a byte that may part fields: one of ASCII that is neither a quote nor ends a line
pub record IsSeparator (byte : ℕ) : Type 0 where
  pub ascii : byte < 128
  pub no_quote : byte ≢ 34
  pub no_return : byte ≢ 13
  pub no_feed : byte ≢ 10

-- how csv's machine reads a text whose fields are parted by this byte
abbrev pub config_of : ℕ → Config
config_of separator = record default_config { delimiter = separator }

-- a field without the white space at its start, and at its end
abbrev pub without_front : List ℕ → List ℕ
without_front field = drop (prefix_len is_ascii_whitespace field) field

abbrev pub without_back : List ℕ → List ℕ
without_back field = take (length field - suffix_len is_ascii_whitespace field) field

-- a field without white space at its ends, if that is left out
abbrev pub trimmed_if : Bool → List ℕ → List ℕ
trimmed_if trim field = if trim then without_back (without_front field) else field

-- whether a field is one of the texts between commas
abbrev pub is_among : List ℕ → List ℕ → Bool
is_among field texts = list_any (bytes_eq field) (slice_split (λ byte. byte == 44) texts)

-- a field as it is read: without white space at its ends, if that is left out, and then nothing if it is one of the texts
-- that are read as nothing
abbrev pub cleaned : Reading → List ℕ → List ℕ
cleaned reading field = if is_among (trimmed_if reading.trim field) reading.nulls then [] else trimmed_if reading.trim field

-- The records of bytes by a reading: those that csv's machine gives with its separator, after a byte order mark, each field
-- as it is read. The header's fields are read so too
abbrev pub records_in : Reading → List ℕ → List (List (List ℕ))
records_in reading bytes = map (map (cleaned reading)) (records (config_of reading.separator) (strip_bom bytes))

-- commas, white space kept, no text that is read as nothing
abbrev pub plain : Reading
plain = record { separator = 44; trim = false; nulls = [] }

-- whether fields are read as they are
abbrev pub keeps_all : Reading → Bool
keeps_all reading = not reading.trim && (length reading.nulls == 0)

-- and whether they are parted by commas too
abbrev pub is_plain : Reading → Bool
is_plain reading = (reading.separator == 44) && keeps_all reading

-- a byte, if the comma and the separator are exchanged
abbrev pub exchanged : ℕ → ℕ → ℕ
exchanged separator byte = if byte == 44 then separator else if byte == separator then 44 else byte

-- a field of a text in which the two were exchanged
abbrev pub as_read : Reading → List ℕ → List ℕ
as_read reading field = cleaned reading (map (exchanged reading.separator) field)

-- the records of a text in which the two were exchanged
abbrev pub records_as : Reading → List ℕ → List (List (List ℕ))
records_as reading bytes = map (map (as_read reading)) (records_of bytes)

-- the law: the records of bytes by a reading are those of the text in which the comma and the separator are exchanged
abbrev pub ReadsExchanged : Type 0
ReadsExchanged = (reading : Reading) (bytes : List ℕ) → IsSeparator reading.separator → records_as reading (map (exchanged reading.separator) bytes) ≡ records_in reading bytes
