-- Tiles of a text, and what each comes to by itself after a header.
use Rattle.std.specs.Prelude.{◌++◌, ℕ, List, [], ◌∷◌, All, drop}
use Rattle.csv_rows.specs.Cuts.{IsCut}
use Rattle.csv_rows.specs.Records.{records_of}
use Rattle.par_model.specs.Plan.{Plan}
use Rattle.partial_agg.specs.Groups.{AreGroups, GroupsByKey}
use Rattle.partial_agg.specs.Rows.{IsAccepted}
use Rattle.row_windows.specs.Seams.{BeginsLine}

-- a text and tiles after it: each but the last ends outside quotes, as a scan from its own start finds, and each but the
-- first begins with the end of a line
unfoldable pub AreTiles : List ℕ → List (List ℕ) → Type 0
AreTiles first [] = Unit {0}
AreTiles first (next ∷ more) = IsCut first × BeginsLine next × AreTiles next more

-- what a tile comes to by itself: after the header none of its rows is refused, and this is their map
pub record IsPart (plan : Plan) (width : ℕ) (header tile : List ℕ) (groups : GroupsByKey) : Type 0 where
  pub accepted : All (IsAccepted plan width) (drop 1 (records_of (header ++ tile)))
  pub are : AreGroups plan (drop 1 (records_of (header ++ tile))) groups
