-- Rows that are shared out to participants, and the maps that these keep of them.
use Rattle.std.specs.Prelude.{◌≡◌, ◌==◌, ℕ, List, [], ◌∷◌, All, filter, get_or}
use Rattle.std.specs.List.{AllZip, flat_map}
use Rattle.std.specs.List.Sorted.{IsPermutation}
use Rattle.par_model.specs.Key.{key_of}
use Rattle.par_model.specs.Plan.{Plan}
use Rattle.partial_agg.specs.Groups.{AreGroups, GroupsByKey, with_rows}
use Rattle.partial_agg.specs.Rows.{IsAccepted}
use Rattle.row_blocks.specs.Blocks.{Table}

-- the shares one after another
abbrev pub together : List Table → Table
together shares = flat_map (λ share. share) shares

-- the rows of the pieces of these numbers, one piece after another; a number that is no piece has none
abbrev pub rows_at : List Table → List ℕ → Table
rows_at pieces numbers = flat_map (λ n. get_or pieces n []) numbers

-- Participants have taken shares of some rows, of which none is refused: each has the map of its own share, and the
-- shares together are the rows, in some order
pub record AreShared (plan : Plan) (width : ℕ) (rows : Table) (maps : List GroupsByKey) : Type 0 where
  pub shares : List Table
  pub each : AllZip (AreGroups plan) shares maps
  pub accepted : All (IsAccepted plan width) rows
  pub same : IsPermutation (together shares) rows

-- each participant adds some rows to its map
unfoldable pub Add : Plan → List Table → List GroupsByKey → List GroupsByKey → Type 0
Add plan [] [] [] = Unit {0}
Add plan (rows ∷ more) (old ∷ olds) (new ∷ news) = (new ≡ with_rows plan old rows) × Add plan more olds news
Add plan [] [] (new ∷ news) = ⊥
Add plan [] (old ∷ olds) news = ⊥
Add plan (rows ∷ more) [] news = ⊥
Add plan (rows ∷ more) (old ∷ olds) [] = ⊥

-- the rows whose keys are of a part
abbrev pub rows_in : Plan → (List ℕ → ℕ) → ℕ → Table → Table
rows_in plan part_of part rows = filter (λ row. part_of (key_of plan row) == part) rows
