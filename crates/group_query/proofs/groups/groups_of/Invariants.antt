use Rattle.std.proofs.Common.{◌*◌, drop, take}
use Rattle.std.specs.List.{All}
use Rattle.partial_agg.specs.Groups.{AreGroups}
use Rattle.partial_agg.specs.Rows.{IsAccepted, header_width}
use Rattle.group_query.proofs.groups.groups_of.Given as goal

-- the rows of the blocks so far are accepted, and the map is that of their groups
abbrev pub invariant-loop-block : goal.invariant-loop-block
invariant-loop-block l = record {
  accepted : All (IsAccepted l.plan (header_width l.rows)) (take (256 * l.block) (drop 1 l.rows));
  groups : AreGroups l.plan (take (256 * l.block) (drop 1 l.rows)) l.groups;
}
