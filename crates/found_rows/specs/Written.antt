-- A field as it is written: how csv's machine reads it.
use Rattle.std.specs.Prelude.{◌≡◌, ◌<◌, ◌≤◌, ◌-◌, ◌++◌, ⊤, ℕ, Bool, true, false, List, [], ◌∷◌, drop, length, slice_index, take}
use Rattle.csv.specs.Machine.{field_after, step}
use Rattle.csv.specs.Reading.{default_config}
use Rattle.csv.specs.declared.parser.Action.{Action}
use Rattle.csv.specs.declared.parser.Action.TheVariants as act
use Rattle.csv.specs.declared.parser.State.{State}
use Rattle.csv.specs.declared.parser.State.TheVariants as st
use Rattle.csv_rows.specs.Cuts.{is_quoted, state_after}
use Rattle.csv_rows.specs.Splits.{is_separator}

-- the bytes from one place of a text to another
abbrev pub between : ℕ → ℕ → List ℕ → List ℕ
between from to text = take (to - from) (drop from text)

-- whether an action ends a field
abbrev pub ends_field : Action → Bool
ends_field act.EndField = true
ends_field act.EndRecord = true
ends_field act.Skip = false
ends_field act.Copy = false

-- none of these bytes ends a field, from a state on
unfoldable pub EndsNoField : State → List ℕ → Type 0
EndsNoField s [] = ⊤
EndsNoField s (c ∷ rest) = (ends_field (step default_config s c).1 ≡ false) × EndsNoField (step default_config s c).0 rest

-- the bytes among them that are of the field
unfoldable pub copied : State → List ℕ → List ℕ
copied s [] = []
copied s (c ∷ rest) = field_after (step default_config s c).1 c [] ++ copied (step default_config s c).0 rest

-- the field that these bytes are read as, from its start
abbrev pub read_as : List ℕ → List ℕ
read_as written = copied st.StartField written

-- a field is written between these places of a text: it goes on up to a comma or a line feed outside quotes, or to the end
pub record IsWritten (text : List ℕ) (from to : ℕ) : Type 0 where
  pub low : from ≤ to
  pub high : to ≤ length text
  pub stays : EndsNoField st.StartField (between from to text)
  pub ends : to < length text → is_separator (slice_index text to) ≡ true
  pub outside : to < length text → is_quoted (state_after st.StartField (between from to text)) ≡ false
