-- When the rows of a source, or of a tile of it, come to more than a file has room for.
use Rattle.std.specs.Prelude.{◌≡◌, ◌<◌, ◌⊎◌, ◌∷◌, ◌^◌, [], ℕ, List, IfSome, Option, Some, length}
use Rattle.csv_rows.specs.Readings.{records_in}
use Rattle.par_model.specs.Named.{bound_plan}
use Rattle.partial_agg.specs.Groups.{GroupsByKey}
use Rattle.partial_agg.specs.Listed.{listed}
use Rattle.plan_spec.specs.Query.{Query}
use Rattle.state_head.specs.Cover.{AreRows}
use Rattle.state_head.specs.Head.{Preface}
use Rattle.state_head.specs.Words.{AreWords, Words}
use Rattle.state_head.specs.declared.cover.Place.{Place}
use Rattle.state_head.specs.declared.cover.Rows.{Rows}
use Rattle.state_plan.specs.FilePlans.{AskFor}
use Rattle.state_save.specs.Saving.{IsLongFile}
use Rattle.state_whole.specs.Adding.{IsShapeOf}
use Rattle.state_whole.specs.declared.adding.Shape.{Shape}
use Rattle.state_partial.specs.Places.{AreRead, IsCoverOf, text_by}
use Rattle.state_partial.specs.Reads.{AreRowsOf}
use Rattle.state_partial.specs.Words.{Asked, asked_in}

-- a field of a head has no room for a word, for the bytes of the header, or for the number of the refused row
abbrev pub HasNoRoom : Words → List ℕ → Rows → Type 0
HasNoRoom words header rows = (AreWords words → ⊥) ⊎ ((2 ^ 28 < length header) ⊎ (AreRows rows → ⊥))

-- the file of these groups, which has this header and lies at this place, is too long: its head has more than 2^28 bytes, or its foot has
pub record IsLongAt (asked : Asked) (query : Query) (header : List (List ℕ)) (text : List ℕ) (place : Place) (rows : Rows) (groups : GroupsByKey) : Type 0 where
  pub preface : Preface
  pub words_are : preface.subject.words ≡ asked.words
  pub header_is : preface.subject.header ≡ text
  pub sources_are : preface.subject.sources ≡ asked.part.sources
  pub cover_is : IsCoverOf place rows preface.cover
  pub keys_are : preface.keys ≡ record { low = []; high = [] }
  pub shape : Shape
  pub is_shape : IsShapeOf (bound_plan header query.plan) shape
  pub long : IsLongFile shape preface (listed groups)

-- of the bytes that a source brings, those that words ask for have this header and these rows, and there is no room for them in a file
pub record IsLongPart (asked : Asked) (bytes : List ℕ) : Type 0 where
  pub query : Query
  pub ask_for : AskFor asked.words query
  pub place : Place
  pub read : List ℕ
  pub are_read : AreRead asked.part.source asked.extent (text_by query bytes) place read
  pub text : List ℕ
  pub header : List (List ℕ)
  pub header_is : records_in query.reading text ≡ header ∷ []
  pub rows : Rows
  pub groups : GroupsByKey
  pub are : AreRowsOf query header (Some read) rows groups
  pub long : HasNoRoom asked.words text rows ⊎ IsLongAt asked query header text place rows groups

-- words ask for such a part, if the source tells what it brings
pub record AskForLong (words : List (List ℕ)) (left : Option (List ℕ)) : Type 0 where
  pub asked : Asked
  pub is_asked : asked_in words ≡ Some asked
  pub long : IfSome left (IsLongPart asked)
