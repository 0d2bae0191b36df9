-- Maps of the tiles of a text.
use Rattle.std.specs.Prelude.{◌≡◌, ◌≤◌, ◌^◌, ◌++◌, ℕ, List, drop, length}
use Rattle.std.specs.List.{AllZip, concat}
use Rattle.csv_rows.specs.Records.{record_at, records_of}
use Rattle.par_model.specs.Named.{NamedPlan, bound_plan}
use Rattle.par_model.specs.Plan.{Plan}
use Rattle.partial_agg.specs.Groups.{GroupsByKey}
use Rattle.part_law.specs.Tiles.{AreTiles, IsPart}

-- a header of one record and tiles after it, which touch; a plan over its columns; and a map of each tile, made by itself
pub record ArePartsOf (names : NamedPlan) (plan : Plan) (header : List ℕ) (tiles : List (List ℕ)) (maps : List GroupsByKey) : Type 0 where
  pub one : length (records_of header) ≡ 1
  pub bound : plan ≡ bound_plan (record_at (records_of header) 0) names
  pub touch : AreTiles header tiles
  pub each : AllZip (IsPart plan (length (record_at (records_of header) 0)) header) tiles maps
  pub few : length (drop 1 (records_of (header ++ concat tiles))) ≤ 2 ^ 50
