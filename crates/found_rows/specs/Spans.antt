-- The fields of a record, by their places.
use Rattle.std.specs.Prelude.{◌≤◌, ℕ, List, All, if◌then◌else◌, length, map, take}
use Rattle.found_rows.specs.Written.{between}
use Rattle.found_rows.specs.declared.spans.Span.{Span}
use Rattle.found_rows.specs.declared.spans.Spans.{Spans}

-- the bytes among which a field lies
abbrev pub bytes_of : List ℕ → List ℕ → Span → List ℕ
bytes_of text copied span = if span.is_copied then copied else text

-- a field
abbrev pub field_in : List ℕ → List ℕ → Span → List ℕ
field_in text copied span = between span.start span.end (bytes_of text copied span)

-- the fields
abbrev pub fields_in : List ℕ → Spans → List (List ℕ)
fields_in text spans = map (field_in text spans.copied.items) (take spans.count spans.list)

-- a place is among the bytes
pub record IsSpan (text copied : List ℕ) (span : Span) : Type 0 where
  pub order : span.start ≤ span.end
  pub within : span.end ≤ length (bytes_of text copied span)

-- the places are among the bytes of a text, or among those that were copied
pub record AreSpans (text : List ℕ) (spans : Spans) : Type 0 where
  pub few : spans.count ≤ 64
  pub each : All (IsSpan text spans.copied.items) (take spans.count spans.list)
