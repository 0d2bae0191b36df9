-- The records of tiles.
use Rattle.std.proofs.Common.{◌≡◌, ◌++◌, ◌∙◌, ℕ, List, [], ◌∷◌, drop, length, refl, ap, sym, arith, append-nil}
use Rattle.std.specs.List.{concat}
use Rattle.csv_rows.specs.Cuts.{IsCut}
use Rattle.csv_rows.specs.Records.{records_of}
use Rattle.row_blocks.specs.Blocks.{Table}
use Rattle.row_windows.specs.Seams.{BeginsLine}
use Rattle.row_windows.proofs.Seams.{records_add_up}
use Rattle.part_law.specs.Tiles.{AreTiles}
use Rattle.part_law.specs.Law.{TilesAddUp}

-- a text that begins with the end of a line does so with more behind it
begins_longer : (back more : List ℕ) → BeginsLine back → BeginsLine (back ++ more)
begins_longer [] more b = absurd (omega (arith, b.some))
begins_longer (c ∷ back) more b = record { some = omega arith; is = b.is }

pub tiles_add_up : TilesAddUp
unfolding AreTiles
tiles_add_up first [] h = ap records_of (append-nil first) ∙ sym (append-nil (records_of first))
tiles_add_up first (next ∷ more) h =
    records_add_up first (next ++ concat more) (record { whole = h.0; line = begins_longer next (concat more) h.1 }) ∙ ap (λ (l : Table). records_of first ++ l) (tiles_add_up next more h.2)

-- what stands behind a list of one record
pub behind_one : (one more : Table) → length one ≡ 1 → drop 1 (one ++ more) ≡ more
behind_one [] more size = absurd (omega (arith, size))
behind_one (h ∷ x ∷ one) more size = absurd (omega (arith, size))
behind_one (h ∷ []) more size = refl

-- the rows of a tile behind a header
pub rows_behind : (header tile : List ℕ) → length (records_of header) ≡ 1 → IsCut header → BeginsLine tile → drop 1 (records_of (header ++ tile)) ≡ records_of tile
rows_behind header tile one cut line =
    ap (λ (l : Table). drop 1 l) (records_add_up header tile (record { whole = cut; line = line })) ∙ behind_one (records_of header) (records_of tile) one
