-- How a file of partial states can have come about, in any number of steps, on any machines.
use Rattle.std.specs.Prelude.{◌≡◌, ◌<◌, ◌^◌, ◌∷◌, ℕ, List, [], get_or, length}
use Rattle.csv_rows.specs.Cuts.{IsCut}
use Rattle.csv_rows.specs.Readings.{records_as}
use Rattle.state_head.specs.declared.cover.Place.{Place}
use Rattle.state_load.specs.Loading.{stretches_of}
use Rattle.state_whole.specs.Adding.{IsShapeOf}
use Rattle.state_whole.specs.Files.{StateFile, tuples_in}
use Rattle.state_whole.specs.declared.adding.Shape.{Shape}
use Rattle.state_law.specs.Law.{IsOneOf, with_header}
use Rattle.state_law.specs.Sources.{IsTile, Work, bytes_at, comma_text, plan_in, rows_in, text_of, whole_place}
use Rattle.state_law.specs.Truth.{IsReadOf}

-- A file came about of a query over some sources: by a reading of a whole source, or of a tile of one after a header; as a file of no
-- bytes; or as several such files put together. So it is a tree of any form, and a source may be in it more than once
pub data IsMade (w : Work) : StateFile → Type 0 where
  whole : (source : ℕ) (f : StateFile) → IsReadOf w.names w.reading w.header (whole_place source (text_of w source)) (comma_text w source) f → IsMade w f
  tile : (header : List ℕ) (p : Place) (f : StateFile) → records_as w.reading header ≡ w.header ∷ [] → IsCut header → IsTile w p → IsReadOf w.names w.reading w.header p (with_header p.from header (bytes_at w p)) f → IsMade w f
  blank : (shape : Shape) (f : StateFile) → IsShapeOf (plan_in w) shape → f.preface.cover ≡ [] → tuples_in f ≡ [] → IsMade w f
  together : (files : List StateFile) (f : StateFile) → ((k : ℕ) (d : StateFile) → k < length files → IsMade w (get_or files k d)) → length (rows_in w (stretches_of files)) < 2 ^ 64 → IsOneOf w files f → IsMade w f
