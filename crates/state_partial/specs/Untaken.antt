-- The options of parstream that `partial` does not take.
use Rattle.std.specs.Prelude.{◌==◌, ℕ, Bool, List, None, Option, Some, bytes_eq, codes, if◌then◌else◌}
use Rattle.std.specs.List.{before_first, list_any}
use Rattle.state_partial.specs.declared.no_part.Untaken.{Untaken}
use Rattle.state_partial.specs.declared.no_part.Untaken.TheVariants as untaken

-- a word up to its first equals sign
abbrev pub option_of : List ℕ → List ℕ
option_of word = before_first (λ byte. byte == 61) word

-- one of the words is this option, with a value or without
abbrev pub has_option : List ℕ → List (List ℕ) → Bool
has_option name words = list_any (λ word. bytes_eq (option_of word) name) words

-- such an option among the words
abbrev pub untaken_in : List (List ℕ) → Option Untaken
untaken_in words =
    if has_option (codes "--no-header") words then Some untaken.NoHeader
    else (if has_option (codes "--skip-bad") words then Some untaken.SkipBad else None)

-- what is said of one
abbrev pub untaken_text : Untaken → List ℕ
untaken_text untaken.NoHeader = codes "partial takes no --no-header: the parts of a table need its header"
untaken_text untaken.SkipBad = codes "partial takes no --skip-bad: a file of states leaves out no rows"
