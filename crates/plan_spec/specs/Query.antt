-- What a command line asks for.
use Rattle.std.specs.Prelude.{ℕ, Bool, false, true, List, [], Option, Some, None, codes, if◌then◌else◌, option_and_then, option_map, option_to_list}
use Rattle.std.specs.Borrow.{Bor}
use Rattle.csv_rows.specs.Readings.{plain}
use Rattle.csv_rows.specs.declared.cleaning.Reading.{Reading}
use Rattle.par_model.specs.Named.{NamedFilter, NamedItem, NamedPlan}
use Rattle.plan_spec.specs.Grammar.{Places, filters_in, hash_in, items_in, names_in, nulls_in, number_in, places_in, separator_in}
use Rattle.plan_spec.specs.Options.{flag_in, is_command_line, pargather_command, parstream_command, value_of, values_of}
use Rattle.plan_spec.specs.declared.plan.TheConstants.{MOST_AREA_PAGES, MOST_WORKERS}
use Rattle.plan_spec.specs.declared.read.TheConstants.{AREA_PAGES, WORKERS}

-- a plan by the names of its columns, the number of workers, the pages of the shared area, and how the input's fields are read
pub record Query : Type 0 where
  pub plan : NamedPlan
  pub workers : ℕ
  pub area_pages : ℕ
  pub reading : Reading

-- the bytes of an option's value
abbrev pub text_of : Option (Bor (List ℕ)) → Option (List ℕ)
text_of given = option_map (λ s. s.now) given

-- the names to group by: none if the option is not given
abbrev pub groups_given : Option (List ℕ) → Option (List (List ℕ))
groups_given None = Some []
groups_given (Some text) = names_in text

-- the places of columns: none if the option is not given
abbrev pub places_given : Option (List ℕ) → Option Places
places_given None = Some []
places_given (Some text) = places_in text

-- the aggregates, which have to be given
abbrev pub items_given : Places → Option (List ℕ) → Option (List NamedItem)
items_given places None = None
items_given places (Some text) = items_in places text

-- a number up to `most`; `missing` if the option is not given
abbrev pub number_given : ℕ → ℕ → Option (List ℕ) → Option ℕ
number_given most missing None = Some missing
number_given most missing (Some text) = number_in most text

-- whether the plan is the one over the shared hash table
abbrev pub hash_given : Option (List ℕ) → Option Bool
hash_given None = Some false
hash_given (Some text) = hash_in text

-- the byte that parts fields: a comma if the option is not given
abbrev pub separator_given : Option (List ℕ) → Option ℕ
separator_given None = Some 44
separator_given (Some text) = separator_in text

-- the texts that are read as nothing: none if the option is not given
abbrev pub nulls_given : Option (List ℕ) → Option (List ℕ)
nulls_given None = Some []
nulls_given (Some text) = nulls_in text

-- how fields are read
abbrev pub reading_given : Option (List ℕ) → Bool → Option (List ℕ) → Option Reading
reading_given separator trim nulls = option_and_then (λ s. option_map (λ n. record { separator = s; trim = trim; nulls = n }) (nulls_given nulls)) (separator_given separator)

-- the query of its parts, if all are there
abbrev pub query_by : Option (List (List ℕ)) → Option (List NamedItem) → Option (List NamedFilter) → Option Bool → Option ℕ → Option ℕ → Option Reading → Option Query
query_by groups items filters hash workers pages reading =
    option_and_then (λ g. option_and_then (λ i. option_and_then (λ f. option_and_then (λ h. option_and_then (λ w. option_and_then (λ p. option_map (λ r.
    record { plan = record { groups = g; items = i; hash = h; filters = f }; workers = w; area_pages = p; reading = r })
    reading) pages) workers) hash) filters) items) groups

-- the query of the words of pargather, if they are one: clap takes them, and each value reads
unfoldable pub query_of : List (List ℕ) → Option Query
query_of words =
    if is_command_line pargather_command words
    then query_by (groups_given (value_of pargather_command (codes "group") words)) (items_given [] (value_of pargather_command (codes "agg") words)) (filters_in false [] (option_to_list (value_of pargather_command (codes "where") words)))
    (hash_given (value_of pargather_command (codes "plan") words)) (number_given MOST_WORKERS WORKERS (value_of pargather_command (codes "workers") words)) (number_given MOST_AREA_PAGES AREA_PAGES (value_of pargather_command (codes "area-pages") words)) (Some plain)
    else None

-- the query of the words of parstream, if they are one
unfoldable pub stream_query_of : List (List ℕ) → Option Query
stream_query_of words =
    if is_command_line parstream_command words
    then option_and_then (λ places. query_by (groups_given (value_of parstream_command (codes "group") words)) (items_given places (value_of parstream_command (codes "agg") words)) (filters_in true places (values_of parstream_command (codes "where") words))
    (Some false) (number_given MOST_WORKERS WORKERS (value_of parstream_command (codes "workers") words)) (Some AREA_PAGES)
    (reading_given (value_of parstream_command (codes "separator") words) (flag_in parstream_command (codes "trim") words) (value_of parstream_command (codes "null") words))) (places_given (value_of parstream_command (codes "decimals") words))
    else None
