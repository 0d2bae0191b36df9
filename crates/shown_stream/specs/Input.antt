-- The bytes that a query is answered over.
use Rattle.std.specs.Prelude.{ℕ, List, None, Option, Some, if◌then◌else◌}
use Rattle.numbered_rows.specs.Left.{left_as}
use Rattle.plan_spec.specs.Query.{Query, stream_query_of}
use Rattle.shown_words.specs.Taking.{Took, has_no_header}

-- the byte between two fields: that of a query, and a comma if there is none
abbrev pub separator_of : Option Query → ℕ
separator_of None = 44
separator_of (Some query) = query.reading.separator

-- the byte between two numbers of a header, if the table has none of its own
abbrev pub numbers_in : Took → Option ℕ
numbers_in took = if has_no_header took then Some (separator_of (stream_query_of took.rest)) else None

-- the bytes of a source: as they are, or behind a header of numbers
abbrev pub given_in : Took → Option (List ℕ) → Option (List ℕ)
given_in took left = left_as (numbers_in took) left
