-- What the parts of a text are together.
use Rattle.std.specs.Prelude.{◌≡◌, ◌<◌, ◌^◌, ◌++◌, ◌∷◌, ℕ, List, drop, length}
use Rattle.std.specs.List.{AllZip, concat, flat_map}
use Rattle.std.specs.List.Sorted.{IsPermutation}
use Rattle.csv_rows.specs.Records.{records_of}
use Rattle.par_model.specs.Named.{NamedPlan}
use Rattle.par_model.specs.Outcome.{IsAnswer}
use Rattle.par_model.specs.Plan.{Plan}
use Rattle.partial_agg.specs.Groups.{GroupsByKey, with_groups}
use Rattle.row_blocks.specs.Blocks.{Table}
use Rattle.gather_law.specs.Shares.{AreShared}
use Rattle.part_law.specs.Tiles.{AreTiles, IsPart}

-- the records of a text are those of its tiles
abbrev pub TilesAddUp : Type 0
TilesAddUp = (first : List ℕ) (more : List (List ℕ)) → AreTiles first more → records_of (first ++ concat more) ≡ records_of first ++ flat_map records_of more

-- the maps of the tiles of a text, after its header, are those of shares of its rows
abbrev pub PartsAreShares : Type 0
PartsAreShares = (plan : Plan) (width : ℕ) (header : List ℕ) (tiles : List (List ℕ)) (maps : List GroupsByKey) → length (records_of header) ≡ 1 → AreTiles header tiles
    → AllZip (IsPart plan width header) tiles maps → AreShared plan width (drop 1 (records_of (header ++ concat tiles))) maps

-- two maps of shares that are put together leave maps of shares
abbrev pub CombineKeeps : Type 0
CombineKeeps = (plan : Plan) (width : ℕ) (rows : Table) (one other : GroupsByKey) (maps : List GroupsByKey) → length rows < 2 ^ 64
    → AreShared plan width rows (one ∷ other ∷ maps) → AreShared plan width rows (with_groups one other ∷ maps)

-- maps of shares stay such in any order
abbrev pub OrderKeeps : Type 0
OrderKeeps = (plan : Plan) (width : ℕ) (rows : Table) (maps others : List GroupsByKey) → IsPermutation maps others → AreShared plan width rows maps → AreShared plan width rows others

-- a query over some records has one text
abbrev pub AnswersAgree : Type 0
AnswersAgree = (names : NamedPlan) (records : Table) (one other : List ℕ) → IsAnswer names records one → IsAnswer names records other → one ≡ other
