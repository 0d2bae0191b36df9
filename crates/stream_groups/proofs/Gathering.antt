-- Rows that were gathered.
use Rattle.std.proofs.Common.{ℕ, All}
use Rattle.par_model.specs.Plan.{Plan}
use Rattle.partial_agg.specs.Rows.{IsAccepted}
use Rattle.row_blocks.specs.Blocks.{Table}
use Rattle.stream_groups.specs.Gathering.{HasGathered}
use Rattle.stream_groups.specs.declared.gathered.Gathered.{Gathered}
use Rattle.stream_groups.specs.declared.gathered.Gathered.TheVariants as kept

-- none of them is refused
pub all_accepted : (plan : Plan) (width : ℕ) (rows : Table) (g : Gathered) → HasGathered plan width rows g → All (IsAccepted plan width) rows
all_accepted plan width rows (kept.Near maps) has = has.accepted
all_accepted plan width rows (kept.Parted parts) has = has.1.accepted
