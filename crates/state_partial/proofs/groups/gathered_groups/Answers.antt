use Rattle.std.proofs.Common.{◌≤◌, ◌^◌, ℕ, arith, length, subst, sym}
use Rattle.par_model.specs.Plan.{Plan}
use Rattle.partial_agg.specs.Groups.{AreGroups, GroupsByKey}
use Rattle.row_blocks.specs.Blocks.{Table}
use Rattle.stream_groups.specs.Gathering.{AreGathered, HasGathered}
use Rattle.stream_groups.specs.declared.gathered.Gathered.{Gathered}
use Rattle.state_partial.proofs.groups.gathered_groups.Goals as goal

pub of_parts-requires : goal.of_parts-requires
of_parts-requires g c =
    let plan = c.requires.0 in
    let r = subst (AreGathered plan) c.in-Parted.is c.requires.1 in
    (plan, r.0, r.1, r.2, c.in_ok-maps-in-Parted.ensures plan r.0 r.1 r.3.1 (omega (arith, r.2)))

pub returns-in_ok-maps-in-Parted : goal.returns-in_ok-maps-in-Parted
returns-in_ok-maps-in-Parted g c =
    let all : GroupsByKey = c.of_parts.result in
    subst (λ (old : Gathered). (plan : Plan) (width : ℕ) (rows : Table) → length rows ≤ 2 ^ 50 → HasGathered plan width rows old → AreGroups plan rows all) (sym c.in-Parted.is)
    (λ plan width rows few has. c.of_parts.ensures plan width rows few (c.in_ok-maps-in-Parted.ensures plan width rows has.1 (omega (arith, few))))
