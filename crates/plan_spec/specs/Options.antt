-- The options of the two programs, and what a command line gives for each.
use Rattle.std.specs.Prelude.{◌==◌, ℕ, Bool, false, true, List, [], Option, Some, bytes_eq, codes, length, unwrap_or}
use Rattle.std.specs.Option.{option_map_or}
use Rattle.clap.specs.Words.{App, Rule, all_of, fault_of, first_of, matches_of, new_app, new_rule, with_rule}
use Rattle.clap.specs.declared.builder.action.ArgAction.TheVariants.{Append, SetTrue}

-- an option that takes one value, and may have to be given
abbrev pub option_of : List ℕ → Bool → Rule
option_of name is_required = record (new_rule name) { long = Some name; required = is_required }

-- an option that takes one value each time it is given
abbrev pub repeated_of : List ℕ → Rule
repeated_of name = record (new_rule name) { long = Some name; action = Some Append }

-- an option that takes no value
abbrev pub flag_of : List ℕ → Rule
flag_of name = record (new_rule name) { long = Some name; action = Some SetTrue }

-- a command with no program name before its words
abbrev pub bare : App → App
bare app = record app { top = record app.top { no_binary_name = true } }

-- the options of pargather, as the crate clap has them
abbrev pub pargather_command : App
pargather_command = with_rule (with_rule (with_rule (with_rule (with_rule (with_rule (bare (new_app (codes "pargather")))
    (option_of (codes "group") false))
    (option_of (codes "agg") true))
    (option_of (codes "where") false))
    (option_of (codes "workers") false))
    (option_of (codes "plan") false))
    (option_of (codes "area-pages") false)

-- the options of parstream that say what is asked of the rows, and by how many workers
abbrev pub asking_command : App
asking_command = with_rule (with_rule (with_rule (with_rule (with_rule (bare (new_app (codes "parstream")))
    (option_of (codes "group") false))
    (option_of (codes "agg") true))
    (repeated_of (codes "where")))
    (option_of (codes "workers") false))
    (option_of (codes "decimals") false)

-- with those that say how fields are read
abbrev pub reading_command : App → App
reading_command app = with_rule (with_rule (with_rule app
    (option_of (codes "separator") false))
    (option_of (codes "null") false))
    (flag_of (codes "trim"))

-- the options of parstream
abbrev pub parstream_command : App
parstream_command = reading_command asking_command

-- whether clap takes the words
abbrev pub is_command_line : App → List (List ℕ) → Bool
is_command_line command words = length (fault_of command words) == 0

-- the value of an option
abbrev pub value_of : App → List ℕ → List (List ℕ) → Option (List ℕ)
value_of command name words = first_of name (matches_of command words)

-- whether an option that takes no value is given
abbrev pub flag_in : App → List ℕ → List (List ℕ) → Bool
flag_in command name words = option_map_or (bytes_eq (codes "true")) (first_of name (matches_of command words)) false

-- the values of an option that may be repeated, in the order of the words
abbrev pub values_of : App → List ℕ → List (List ℕ) → List (List ℕ)
values_of command name words = unwrap_or (all_of name (matches_of command words)) []
