-- The first word of a command line of parstream that is not understood.
use Rattle.std.specs.Prelude.{[], ◌==◌, ◌||◌, ◌&&◌, ◌+◌, ◌-◌, ◌++◌, ◌∷◌, ℕ, Bool, true, false, not, zero, suc, List, Option, None, Some, bytes_eq, codes, drop, if◌then◌else◌, is_some, length, min, slice_index_or, take}
use Rattle.std.specs.List.{before_first, list_any, position_or_len}
use Rattle.std.specs.Option.{option_map_or}
use Rattle.plan_spec.specs.Query.{stream_query_of}
use Rattle.input_hints.specs.declared.wrong.Expected.{Expected}
use Rattle.input_hints.specs.declared.wrong.Expected.TheVariants as may
use Rattle.input_hints.specs.declared.wrong.Name.{Name}
use Rattle.input_hints.specs.declared.wrong.Name.TheVariants as opt
use Rattle.input_hints.specs.declared.wrong.Wrong.{Wrong}
use Rattle.input_hints.specs.declared.wrong.TheConstants.{MOST_WORDS}

-- ---- the words that are understood

abbrev pub is_equals : ℕ → Bool
is_equals byte = byte == 61

-- a word up to its first equals sign
abbrev pub front_of : List ℕ → List ℕ
front_of word = before_first is_equals word

-- some words with others before them are a query, or are one once `--agg=count` comes before all
abbrev pub is_begun_after : List (List ℕ) → List (List ℕ) → Bool
is_begun_after before words = is_some (stream_query_of (before ++ words)) || is_some (stream_query_of (codes "--agg=count" ∷ (before ++ words)))

-- words begin a query, by themselves or once these places come before them
abbrev pub is_begun : List (List ℕ) → List (List ℕ) → Bool
is_begun places words = is_begun_after [] words || is_begun_after places words

-- the greatest number, up to some number, of first words that begin a query
abbrev pub most_begun : List (List ℕ) → ℕ → List (List ℕ) → ℕ
most_begun places zero words = 0
most_begun places (suc count) words = if is_begun places (take (suc count) words) then suc count else most_begun places count words

-- whether a word is `--decimals`, with its value or without
abbrev pub is_decimals : List ℕ → Bool
is_decimals word = bytes_eq (front_of word) (codes "--decimals")

-- `--decimals` with its value, as words first give it: in one word with an equals sign, or in two
abbrev pub given_places : List (List ℕ) → List (List ℕ)
given_places words =
    let at = position_or_len is_decimals words in
    take (if list_any is_equals (slice_index_or words at []) then 1 else 2) (drop at words)

-- how many words are understood, from the first on
abbrev pub understood : List (List ℕ) → ℕ
understood words = most_begun (given_places words) (min (length words) MOST_WORDS) words

-- ---- what is wrong after them

-- how an option is written
abbrev pub name_text : Name → List ℕ
name_text opt.Group = codes "--group"
name_text opt.Agg = codes "--agg"
name_text opt.Where = codes "--where"
name_text opt.Workers = codes "--workers"
name_text opt.Decimals = codes "--decimals"
name_text opt.Separator = codes "--separator"
name_text opt.Null = codes "--null"
name_text opt.Trim = codes "--trim"

-- the option of this name
abbrev pub name_in : List ℕ → Option Name
name_in text =
    if bytes_eq text (codes "--group") then Some opt.Group
    else (if bytes_eq text (codes "--agg") then Some opt.Agg
    else (if bytes_eq text (codes "--where") then Some opt.Where
    else (if bytes_eq text (codes "--workers") then Some opt.Workers
    else (if bytes_eq text (codes "--decimals") then Some opt.Decimals
    else (if bytes_eq text (codes "--separator") then Some opt.Separator
    else (if bytes_eq text (codes "--null") then Some opt.Null
    else (if bytes_eq text (codes "--trim") then Some opt.Trim else None)))))))

-- the option that a word names
abbrev pub name_of : List ℕ → Option Name
name_of word = name_in (front_of word)

-- whether an option may be given more than once
abbrev pub may_repeat : Name → Bool
may_repeat opt.Group = false
may_repeat opt.Agg = false
may_repeat opt.Where = true
may_repeat opt.Workers = false
may_repeat opt.Decimals = false
may_repeat opt.Separator = false
may_repeat opt.Null = false
may_repeat opt.Trim = false

-- whether an option takes a value
abbrev pub takes_value : Name → Bool
takes_value opt.Group = true
takes_value opt.Agg = true
takes_value opt.Where = true
takes_value opt.Workers = true
takes_value opt.Decimals = true
takes_value opt.Separator = true
takes_value opt.Null = true
takes_value opt.Trim = false

-- one of some words names an option
abbrev pub is_named : Name → List (List ℕ) → Bool
is_named name words = list_any (λ word. bytes_eq (front_of word) (name_text name)) words

-- a word that names an option is itself what is not understood, if its value is: it has one, or may have none
abbrev pub is_itself : Name → List ℕ → Bool
is_itself name word = list_any is_equals word || not (takes_value name)

-- what is wrong at a word that names an option, after some words that are understood: it is there already and may be given
-- once, or its value is not understood, which is in this word or is the next
abbrev pub wrong_option : List (List ℕ) → ℕ → Name → Wrong
wrong_option words count name =
    if not (may_repeat name) && is_named name (take count words) then record { at = count; expected = may.Other }
    else (if is_itself name (slice_index_or words count []) then record { at = count; expected = may.Value name }
    else record { at = count + 1; expected = may.Value name })

-- what is wrong at a word, after some words that are understood
abbrev pub wrong_word : List (List ℕ) → ℕ → Option Name → Wrong
wrong_word words count None = record { at = count; expected = may.Name }
wrong_word words count (Some name) = wrong_option words count name

-- a word is the name of an option that takes a value
abbrev pub wants_value : List ℕ → Bool
wants_value word = option_map_or takes_value (name_in word) false

-- the word before a place is the name of an option that takes a value, so the word at that place is this value
abbrev pub is_value : List (List ℕ) → ℕ → Bool
is_value words at = not (at == 0) && wants_value (slice_index_or words (at - 1) [])

-- the last of some words that are understood is `--`, after which there may be no other; it may also be the value of an option
abbrev pub is_ended : List (List ℕ) → ℕ → Bool
is_ended words count = not (count == 0) && (bytes_eq (slice_index_or words (count - 1) []) (codes "--") && not (is_value words (count - 1)))

-- what is wrong after some words that are understood: if there are no others the aggregates are missing
abbrev pub wrong_after : List (List ℕ) → ℕ → Wrong
wrong_after words count =
    if count == length words then record { at = count; expected = may.Items }
    else (if is_ended words count then record { at = count; expected = may.Nothing }
    else wrong_word words count (name_of (slice_index_or words count [])))

-- the first word that is not understood, of words that are no query
abbrev pub wrong_in : List (List ℕ) → Wrong
wrong_in words = wrong_after words (understood words)

-- ---- what is said of it

-- what the value of an option may be
abbrev pub values_text : Name → List ℕ
values_text opt.Group = codes "--group takes one to eight names between commas"
values_text opt.Agg = codes "--agg takes one to eight of count, count:C, sum:C, min:C, max:C and avg:C between commas, without spaces"
values_text opt.Where = codes "--where takes a column, one of = != < <= > >=, and an integer, or a decimal with --decimals, as in 'qty>=10'; after = and != also a text, as in region=north"
values_text opt.Workers = codes "--workers takes a number from 0 to 64"
values_text opt.Decimals = codes "--decimals takes a number from 0 to 18, or one for each column, as in 'price=2,weight=3'"
values_text opt.Separator = codes "--separator takes one character of ASCII that is no quote and ends no line, or tab"
values_text opt.Null = codes "--null takes one to eight texts between commas, at most 248 bytes in all"
values_text opt.Trim = codes "--trim takes no value"

-- what may come
abbrev pub expected_text : Expected → List ℕ
expected_text may.Name = codes "the options are --group, --agg, --where, --decimals, --separator, --null, --trim, --workers, --order, --limit, --output, --skip-bad and --no-header; the input is the standard input, as in < FILE"
expected_text may.Other = codes "this option may be given once"
expected_text (may.Value name) = values_text name
expected_text may.Items = codes "--agg ITEMS is missing"
expected_text may.Nothing = codes "no word may come after --"
