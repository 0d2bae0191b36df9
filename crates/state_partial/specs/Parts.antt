-- What the rows of one source, or of a tile of it, come to, as a file.
use Rattle.std.specs.Prelude.{◌≡◌, ◌⊎◌, ◌∷◌, ℕ, List, [], None, IfSome, Option, Some}
use Rattle.csv_rows.specs.Readings.{records_as, records_in}
use Rattle.csv_rows.specs.declared.cleaning.Reading.{Reading}
use Rattle.par_model.specs.Named.{NamedPlan, bound_plan, missing_name}
use Rattle.plan_spec.specs.Query.{Query}
use Rattle.state_head.specs.declared.cover.Place.{Place}
use Rattle.state_plan.specs.FilePlans.{AskFor}
use Rattle.state_whole.specs.Adding.{IsShapeOf}
use Rattle.state_whole.specs.Files.{IsStateFile, StateFile, file_bytes, tuples_in}
use Rattle.state_whole.specs.declared.adding.Shape.{Shape}
use Rattle.state_law.specs.Truth.{IsReadOf}
use Rattle.state_partial.specs.Places.{AreRead, IsFilled, text_by, text_left}
use Rattle.state_partial.specs.Words.{Asked, asked_in}

-- a file says nothing of a tile of no bytes: it has no stretch and no tuples
pub record SaysNothing (reading : Reading) (header : List (List ℕ)) (p : Place) (read : List ℕ) (f : StateFile) : Type 0 where
  pub none : p.from ≡ p.to
  pub records : records_as reading read ≡ header ∷ []
  pub cover : f.preface.cover ≡ []
  pub tuples : tuples_in f ≡ []

-- a file is what this text with commas comes to, as that of a place, if it has bytes
abbrev pub IsFileAt : NamedPlan → Reading → List (List ℕ) → Place → List ℕ → StateFile → Type 0
IsFileAt names reading header p read f = (IsFilled p × IsReadOf names reading header p read f) ⊎ SaysNothing reading header p read f

-- A file is that of the bytes that words ask for, of those that a source brings: it says at which place they lie. They are read in the text
-- with commas, of which the comma and the separator are exchanged
pub record IsPartOf (asked : Asked) (bytes : List ℕ) (f : StateFile) : Type 0 where
  pub query : Query
  pub ask_for : AskFor asked.words query
  pub header : List (List ℕ)
  pub whole : missing_name header query.plan ≡ None
  pub place : Place
  pub read : List ℕ
  pub are_read : AreRead asked.part.source asked.extent (text_by query bytes) place read
  pub is_file : IsFileAt query.plan query.reading header place read f
  pub words_are : f.preface.subject.words ≡ asked.words
  pub header_is : records_in query.reading f.preface.subject.header ≡ header ∷ []
  pub sources_are : f.preface.subject.sources ≡ asked.part.sources
  pub keys_are : f.preface.keys ≡ record { low = []; high = [] }

-- the words after `partial` ask for a part, and these are the bytes of its file, which a reader takes
pub record IsPartText (words : List (List ℕ)) (bytes text : List ℕ) : Type 0 where
  pub asked : Asked
  pub is_asked : asked_in words ≡ Some asked
  pub file : StateFile
  pub is_part : IsPartOf asked bytes file
  pub shape : Shape
  pub is_shape : IsShapeOf (bound_plan is_part.header is_part.query.plan) shape
  pub is_file : IsStateFile shape.columns shape.kinds.now file
  pub is_text : text ≡ file_bytes shape.kinds.now file

-- these are the bytes of the file of whatever source brings this text with commas
abbrev pub IsTextOf : List (List ℕ) → Query → Option (List ℕ) → List ℕ → Type 0
IsTextOf words query read text = (left : Option (List ℕ)) → read ≡ text_left query left → IfSome left (λ bytes. IsPartText words bytes text)
