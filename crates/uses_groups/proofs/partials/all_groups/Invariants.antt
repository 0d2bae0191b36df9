use Rattle.std.proofs.Common.{◌*◌, take, drop, All}
use Rattle.partial_agg.specs.Groups.{AreGroups}
use Rattle.partial_agg.specs.Rows.{IsAccepted, header_width}
use Rattle.uses_groups.proofs.partials.all_groups.Given as goal

abbrev pub invariant-loop-block : goal.invariant-loop-block
invariant-loop-block l = record { groups : AreGroups l.plan (take (256 * l.block) (drop 1 l.rows)) l.groups; accepted : All (IsAccepted l.plan (header_width l.rows)) (take (256 * l.block) (drop 1 l.rows)) }
