-- Files that are no comma-separated text, by the bytes that they begin with.
use Rattle.std.specs.Prelude.{[], ◌==◌, ◌&&◌, ◌||◌, ◌∷◌, ◌++◌, ℕ, Bool, not, List, Option, None, Some, codes, drop, if◌then◌else◌, length, nat_le, slice_index, take}
use Rattle.std.specs.Char.{is_ascii_whitespace}
use Rattle.std.specs.List.{prefix_len, starts_with}
use Rattle.std.specs.Str.{str_eq_ignore_ascii_case}
use Rattle.input_hints.specs.declared.kind.Kind.{Kind}
use Rattle.input_hints.specs.declared.kind.Kind.TheVariants as kind

-- bytes begin with these
abbrev pub begins : List ℕ → List ℕ → Bool
begins bytes front = starts_with (λ a b. a == b) bytes front

-- the same, if capital letters are taken for small ones
abbrev pub begins_in_any_case : List ℕ → List ℕ → Bool
begins_in_any_case bytes front = str_eq_ignore_ascii_case (take (length front) bytes) front

-- bytes without the white space that they begin with
abbrev pub after_space : List ℕ → List ℕ
after_space bytes = drop (prefix_len is_ascii_whitespace bytes) bytes

-- gzip (RFC 1952): its magic number and the one method of compression there is
abbrev pub is_gzip : List ℕ → Bool
is_gzip bytes = begins bytes (0x1f ∷ 0x8b ∷ 0x08 ∷ [])

-- the magic number of a stream of xz
abbrev pub is_xz : List ℕ → Bool
is_xz bytes = begins bytes (0xfd ∷ 0x37 ∷ 0x7a ∷ 0x58 ∷ 0x5a ∷ 0x00 ∷ [])

-- zstd (RFC 8878): the magic number of a frame
abbrev pub is_zstd : List ℕ → Bool
is_zstd bytes = begins bytes (0x28 ∷ 0xb5 ∷ 0x2f ∷ 0xfd ∷ [])

-- a zip archive, as an .xlsx file is: the signature of a file's header, or of an archive with no files
abbrev pub is_zip : List ℕ → Bool
is_zip bytes = begins bytes (0x50 ∷ 0x4b ∷ 0x03 ∷ 0x04 ∷ []) || begins bytes (0x50 ∷ 0x4b ∷ 0x05 ∷ 0x06 ∷ [])

-- Parquet: its magic number, and the first byte of the header of a page. A column may be named PAR1
abbrev pub is_parquet : List ℕ → Bool
is_parquet bytes = begins bytes (0x50 ∷ 0x41 ∷ 0x52 ∷ 0x31 ∷ 0x15 ∷ [])

-- bzip2: its magic number, and past the size of its blocks the first two bytes of the number of a block
abbrev pub is_bzip2 : List ℕ → Bool
is_bzip2 bytes = begins bytes (0x42 ∷ 0x5a ∷ 0x68 ∷ []) && ((slice_index bytes 4 == 0x31) && (slice_index bytes 5 == 0x41))

-- JSON: an object, or a list of objects, with a first name. RFC 4180 has no quote in a field that does not begin with one
abbrev pub is_json : List ℕ → Bool
is_json bytes = begins bytes (codes "{\"") || begins bytes (codes "[{\"")

-- a compound file of OLE ([MS-CFB] 2.2), as one of Excel before 2007 is: the first half of its signature
abbrev pub is_ole : List ℕ → Bool
is_ole bytes = begins bytes (0xd0 ∷ 0xcf ∷ 0x11 ∷ 0xe0 ∷ [])

-- PDF (ISO 32000-2, 7.5.2): the front of its first line, up to the first digit of its version
abbrev pub is_pdf : List ℕ → Bool
is_pdf bytes = begins bytes (codes "%PDF-1") || begins bytes (codes "%PDF-2")

-- a database of SQLite: the header string of its file format, which ends with a zero
abbrev pub is_sqlite : List ℕ → Bool
is_sqlite bytes = begins bytes (codes "SQLite format 3" ++ (0 ∷ []))

-- HTML: after white space its document type or the tag of its root, in small letters or capital ones
abbrev pub is_html : List ℕ → Bool
is_html bytes = begins_in_any_case (after_space bytes) (codes "<!doctype html") || begins_in_any_case (after_space bytes) (codes "<html")

-- a byte-order mark of UTF-32, in either order; the one begins with that of UTF-16
abbrev pub has_long_mark : List ℕ → Bool
has_long_mark bytes = begins bytes (0xff ∷ 0xfe ∷ 0x00 ∷ 0x00 ∷ []) || begins bytes (0x00 ∷ 0x00 ∷ 0xfe ∷ 0xff ∷ [])

-- a byte-order mark of UTF-16, in either order
abbrev pub has_mark : List ℕ → Bool
has_mark bytes = begins bytes (0xff ∷ 0xfe ∷ []) || begins bytes (0xfe ∷ 0xff ∷ [])

-- two characters of UTF-16 below 256, the lower byte of each first: each has a zero and a byte that is none
abbrev pub is_low_first : List ℕ → Bool
is_low_first bytes = nat_le 4 (length bytes) && ((not (slice_index bytes 0 == 0) && (slice_index bytes 1 == 0)) && (not (slice_index bytes 2 == 0) && (slice_index bytes 3 == 0)))

-- two characters of UTF-16 below 256, the higher byte of each first
abbrev pub is_high_first : List ℕ → Bool
is_high_first bytes = nat_le 4 (length bytes) && (((slice_index bytes 0 == 0) && not (slice_index bytes 1 == 0)) && ((slice_index bytes 2 == 0) && not (slice_index bytes 3 == 0)))

-- what a file is that begins with these bytes, if it is one of these
abbrev pub kind_by : List ℕ → Option Kind
kind_by bytes =
    if is_gzip bytes then Some kind.Gzip
    else (if is_xz bytes then Some kind.Xz
    else (if is_zstd bytes then Some kind.Zstd
    else (if is_zip bytes then Some kind.Zip
    else (if is_parquet bytes then Some kind.Parquet
    else (if is_bzip2 bytes then Some kind.Bzip2
    else (if is_json bytes then Some kind.Json
    else (if is_ole bytes then Some kind.Ole
    else (if is_pdf bytes then Some kind.Pdf
    else (if is_sqlite bytes then Some kind.Sqlite
    else (if is_html bytes then Some kind.Html
    else (if has_long_mark bytes then Some kind.Utf32
    else (if has_mark bytes then Some kind.Utf16
    else (if is_low_first bytes then Some kind.Utf16Low
    else (if is_high_first bytes then Some kind.Utf16High else None))))))))))))))

-- what a file is by the bytes that it begins with, of which sixteen are looked at
abbrev pub kind_in : List ℕ → Option Kind
kind_in bytes = kind_by (take 16 bytes)

-- what is said of it, with a command that makes text of it
abbrev pub kind_text : Kind → List ℕ
kind_text kind.Gzip = codes "the input is compressed by gzip: zcat FILE | parstream .."
kind_text kind.Xz = codes "the input is compressed by xz: xzcat FILE | parstream .."
kind_text kind.Zstd = codes "the input is compressed by zstd: zstdcat FILE | parstream .."
kind_text kind.Zip = codes "the input is a zip archive: unzip -p FILE | parstream .., or save a spreadsheet as CSV"
kind_text kind.Parquet = codes "the input is Parquet: duckdb -csv -c \"FROM 'FILE'\" | parstream .."
kind_text kind.Bzip2 = codes "the input is compressed by bzip2: bzcat FILE | parstream .."
kind_text kind.Json = codes "the input is JSON: duckdb -csv -c \"FROM read_json('FILE')\" | parstream .."
kind_text kind.Ole = codes "the input is a file of Excel before 2007 or the like: save it as CSV"
kind_text kind.Pdf = codes "the input is PDF: save its table as CSV"
kind_text kind.Sqlite = codes "the input is an SQLite database: sqlite3 -csv -header FILE 'SELECT * FROM t' | parstream .."
kind_text kind.Html = codes "the input is HTML: save its table as CSV"
kind_text kind.Utf32 = codes "the input is UTF-32: iconv -f UTF-32 -t UTF-8 FILE | parstream .."
kind_text kind.Utf16 = codes "the input is UTF-16: iconv -f UTF-16 -t UTF-8 FILE | parstream .."
kind_text kind.Utf16Low = codes "the input is UTF-16: iconv -f UTF-16LE -t UTF-8 FILE | parstream .."
kind_text kind.Utf16High = codes "the input is UTF-16: iconv -f UTF-16BE -t UTF-8 FILE | parstream .."
