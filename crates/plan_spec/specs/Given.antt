-- What the values of a command line's options come to.
use Rattle.std.specs.Prelude.{ℕ, List, Option, map, option_and_then, option_map}
use Rattle.csv_rows.specs.declared.cleaning.Reading.{Reading}
use Rattle.plan_spec.specs.Grammar.{filters_in}
use Rattle.plan_spec.specs.Query.{Query, groups_given, hash_given, items_given, number_given, places_given, query_by, reading_given, text_of}
use Rattle.plan_spec.specs.declared.grammar.PlacesOf.{PlacesOf}
use Rattle.plan_spec.specs.declared.options.OptionValues.{OptionValues}
use Rattle.plan_spec.specs.declared.plan.TheConstants.{MOST_AREA_PAGES, MOST_WORKERS}
use Rattle.plan_spec.specs.declared.read.TheConstants.{AREA_PAGES, WORKERS}

-- an entry, with the bytes of its name
abbrev pub entry_of : PlacesOf → Option (List ℕ) × ℕ
entry_of entry = (option_map (λ name. name.now) entry.column, entry.places)

-- how they say that fields are read
abbrev pub reading_of : OptionValues → Option Reading
reading_of given = reading_given (text_of given.separator) given.trim (text_of given.nulls)

-- the query of the values, if each reads
abbrev pub query_given : OptionValues → Option Query
query_given given =
    option_and_then (λ places. query_by (groups_given (text_of given.group)) (items_given places (text_of given.agg)) (filters_in given.texts places (map (λ s. s.now) given.filters.items))
    (hash_given (text_of given.plan)) (number_given MOST_WORKERS WORKERS (text_of given.workers)) (number_given MOST_AREA_PAGES AREA_PAGES (text_of given.area_pages)) (reading_of given)) (places_given (text_of given.decimals))
