-- What the words of `partial` ask for.
use Rattle.std.specs.Prelude.{◌==◌, ◌&&◌, ◌++◌, ◌∷◌, [], Bool, ℕ, false, true, not, List, Option, Some, None, bytes_eq, codes, flat_map, if◌then◌else◌, length, nat_le, nat_lt, option_and_then, option_map, unwrap_or}
use Rattle.std.specs.Char.{is_ascii_digit}
use Rattle.std.specs.List.{after_first, before_first, list_all, list_any, starts_with}
use Rattle.std.specs.Option.{option_map_or}
use Rattle.std.specs.Str.Parse.{digits_value}
use Rattle.clap.specs.Walk.{Row}
use Rattle.clap.specs.Words.{App, all_of, first_of, matches_of, new_app, with_rule}
use Rattle.plan_spec.specs.Grammar.{number_in}
use Rattle.plan_spec.specs.Options.{bare, is_command_line, option_of, reading_command, repeated_of}
use Rattle.plan_spec.specs.Query.{number_given, text_of}
use Rattle.plan_spec.specs.declared.plan.TheConstants.{MOST_WORKERS}
use Rattle.state_file.specs.Text.{text_bytes}
use Rattle.state_head.specs.Words.{Words}
use Rattle.state_partial.specs.declared.words.Extent.{Extent}
use Rattle.state_partial.specs.declared.words.Extent.TheVariants as extent
use Rattle.state_partial.specs.declared.words.Given.{Given}
use Rattle.state_partial.specs.declared.words.PartWords.{PartWords}
use Rattle.state_partial.specs.declared.words.SourcePart.{SourcePart}
use Rattle.state_partial.specs.declared.words.TheConstants.{MOST_SOURCES, OPEN_END, PAST_PLACES, WORKERS}
use Rattle.tile_source.specs.declared.open.Span.{Span}

-- the words of a plan as a head has them, the number of workers, of which of how many sources the part is, and of which of its bytes
pub record Asked : Type 0 where
  pub words : Words
  pub workers : ℕ
  pub part : SourcePart
  pub extent : Extent

abbrev pub asked_of : PartWords → Asked
asked_of p = record { words = record { group = p.group.now; agg = p.agg.now; filter = p.filters.items; decimals = p.decimals.now }; workers = p.workers; part = p.part; extent = p.extent }

-- the options of parstream that say what is asked of the rows, and by how many workers, as the crate clap has them
abbrev pub asking_command : App
asking_command = with_rule (with_rule (with_rule (with_rule (with_rule (bare (new_app (codes "partial")))
    (option_of (codes "group") false))
    (option_of (codes "agg") true))
    (repeated_of (codes "where")))
    (option_of (codes "workers") false))
    (option_of (codes "decimals") false)

-- the options of a plan: those of parstream
abbrev pub plan_command : App
plan_command = reading_command asking_command

-- which source, and which bytes of it
abbrev pub partial_command : App
partial_command = with_rule (with_rule (with_rule plan_command (option_of (codes "source") false)) (option_of (codes "bytes") false)) (option_of (codes "size") false)

-- a text that has a byte; the empty one, if none is given
abbrev pub text_given : Option (List ℕ) → Option (List ℕ)
text_given None = Some []
text_given (Some text) = if length text == 0 then None else Some text

-- a source below the number of them
abbrev pub source_by : Option ℕ → Option ℕ → Option SourcePart
source_by source sources = option_and_then (λ i. option_and_then (λ n. if nat_lt i n then Some (record { source = i; sources = n }) else None) sources) source

-- which of how many sources: `0/3`
abbrev pub source_in : List ℕ → Option SourcePart
source_in text =
    if list_any (λ byte. byte == 47) text then source_by (number_in MOST_SOURCES (before_first (λ byte. byte == 47) text)) (number_in MOST_SOURCES (after_first (λ byte. byte == 47) text))
    else None

-- the only one, if none is given
abbrev pub source_given : Option (List ℕ) → Option SourcePart
source_given None = Some (record { source = 0; sources = 1 })
source_given (Some text) = source_in text

-- a place in a source, in digits
abbrev pub place_in : List ℕ → Option ℕ
place_in text =
    if nat_lt 0 (length text) && (list_all is_ascii_digit text && nat_lt (digits_value 10 text) PAST_PLACES)
    then Some (digits_value 10 text) else None

-- the bytes from a place up to another, of a source of a size: neither the second place nor the size is below the first
abbrev pub span_by : Option ℕ → Option ℕ → Option ℕ → Option Span
span_by from to size =
    option_and_then (λ f. option_and_then (λ t. option_and_then (λ s. if nat_le f t && nat_le f s then Some (record { from = f; to = t; size = s }) else None) size) to) from

-- the bytes `FROM-TO`, or those from `FROM` on
abbrev pub span_in : List ℕ → List ℕ → Option Span
span_in bytes size =
    if list_any (λ byte. byte == 45) bytes then span_by (place_in (before_first (λ byte. byte == 45) bytes)) (place_in (after_first (λ byte. byte == 45) bytes)) (place_in size)
    else span_by (place_in bytes) (Some OPEN_END) (place_in size)

-- all bytes, if neither they nor the size are given; one of them needs the other
abbrev pub extent_given : Option (List ℕ) → Option (List ℕ) → Option Extent
extent_given None None = Some extent.Whole
extent_given None (Some size) = None
extent_given (Some bytes) None = None
extent_given (Some bytes) (Some size) = option_map (λ span. extent.Tile span) (span_in bytes size)

-- filters as a head has them
abbrev pub filters_of : List (List ℕ) → List ℕ
filters_of texts = flat_map text_bytes texts

-- a value after this text, if it is given
abbrev pub text_after : List ℕ → Option (List ℕ) → List (List ℕ)
text_after front None = []
text_after front (Some value) = (front ++ value) ∷ []

-- how fields are read, as a head has it among the filters: after them, and each option in one order
abbrev pub reading_texts : Option (List ℕ) → Option (List ℕ) → Bool → List (List ℕ)
reading_texts separator nulls trim = text_after (codes "=separator=") separator ++ (text_after (codes "=null=") nulls ++ (if trim then codes "=trim" ∷ [] else []))

-- the texts of the filters, of the rows of clap's matches
abbrev pub where_texts : List Row → List (List ℕ)
where_texts rows = unwrap_or (all_of (codes "where") rows) []

-- a text that may be a filter: none begins with an equals sign, and a head has how fields are read as such texts
abbrev pub may_be_filter : List ℕ → Bool
may_be_filter text = not (starts_with (λ a b. a == b) text (codes "="))

-- how they say that fields are read
abbrev pub reading_of : List Row → List (List ℕ)
reading_of rows = reading_texts (first_of (codes "separator") rows) (first_of (codes "null") rows) (option_map_or (bytes_eq (codes "true")) (first_of (codes "trim") rows) false)

-- the filters and how fields are read, if each text may be a filter
abbrev pub filters_in : List Row → Option (List ℕ)
filters_in rows = if list_all may_be_filter (where_texts rows) then Some (filters_of (where_texts rows) ++ filters_of (reading_of rows)) else None

-- what all values ask for, if each is one
abbrev pub asked_by : Option (List ℕ) → Option (List ℕ) → Option (List ℕ) → List ℕ → Option ℕ → Option SourcePart → Option Extent → Option Asked
asked_by group agg decimals filters workers part which =
    option_and_then (λ g. option_and_then (λ a. option_and_then (λ d. option_and_then (λ w. option_and_then (λ p. option_map (λ e.
    record { words = record { group = g; agg = a; filter = filters; decimals = d }; workers = w; part = p; extent = e })
    which) part) workers) decimals) agg) group

-- what values ask for as they were given
abbrev pub given_by : Given → Option Asked
given_by g = asked_by (text_given (text_of g.group)) (text_given (text_of g.agg)) (text_given (text_of g.decimals)) g.filters.items (number_given MOST_WORKERS WORKERS (text_of g.workers)) (source_given (text_of g.source)) (extent_given (text_of g.bytes) (text_of g.size))

-- what the rows of clap's matches ask for, if each value reads
abbrev pub asked_by_rows : List Row → Option Asked
asked_by_rows rows =
    option_and_then (λ filters. asked_by (text_given (first_of (codes "group") rows)) (text_given (first_of (codes "agg") rows)) (text_given (first_of (codes "decimals") rows)) filters
    (number_given MOST_WORKERS WORKERS (first_of (codes "workers") rows)) (source_given (first_of (codes "source") rows)) (extent_given (first_of (codes "bytes") rows) (first_of (codes "size") rows))) (filters_in rows)

-- what the words after `partial` ask for, if they do: clap takes them, and each value reads
unfoldable pub asked_in : List (List ℕ) → Option Asked
asked_in words = if is_command_line partial_command words then asked_by_rows (matches_of partial_command words) else None

-- the words after `partial`, if that is the first one
abbrev pub words_after : List (List ℕ) → Option (List (List ℕ))
words_after [] = None
words_after (word ∷ rest) = if bytes_eq word (codes "partial") then Some rest else None
