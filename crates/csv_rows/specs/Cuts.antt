-- Where the bytes of a table can be cut so that the records of the two parts are those of the whole.
use Rattle.std.specs.Prelude.{◌≡◌, Bool, true, false, ℕ, List, [], ◌∷◌}
use Rattle.csv.specs.Machine.{step}
use Rattle.csv.specs.Reading.{default_config, strip_bom}
use Rattle.csv.specs.declared.parser.State.{State}
use Rattle.csv.specs.declared.parser.State.TheVariants as st

-- the state of csv's machine after these bytes
unfoldable pub state_after : State → List ℕ → State
state_after s [] = s
state_after s (c ∷ rest) = state_after (step default_config s c).0 rest

-- whether the machine is between quotes, where a line feed is a byte like any other
abbrev pub is_quoted : State → Bool
is_quoted st.InQuoted = true
is_quoted st.StartRecord = false
is_quoted st.StartField = false
is_quoted st.InField = false
is_quoted st.AfterQuote = false
is_quoted st.InEscape = false
is_quoted st.InComment = false
is_quoted st.AfterCr = false

-- whether a text ends between quotes
abbrev pub ends_quoted : List ℕ → Bool
ends_quoted text = is_quoted (state_after st.StartRecord text)

-- a table may be cut between these bytes and a line feed: that ends a record, or comes where none has begun
abbrev pub IsCut : List ℕ → Type 0
IsCut bytes = ends_quoted (strip_bom bytes) ≡ false
