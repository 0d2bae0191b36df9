use Rattle.std.proofs.Common.{rules, subst}
use Rattle.std.proofs.lemmas.Result.{IfOk-weaker}
use Rattle.stream_groups.specs.Stops.{Tells}
use Rattle.stream_groups.specs.Ways.{of_text}
use Rattle.state_partial.proofs.reading.read_part.Goals as goal

pub counted_part-requires : goal.counted_part-requires
counted_part-requires g c = (search rules, (c.args.plan.now, g.S.Source.left c.args.source.now, c.in-Ok.ensures.groups))

pub returns-in-Ok-clause-read : goal.returns-in-Ok-clause-read
returns-in-Ok-clause-read g c =
    let from = g.S.Source.left c.args.source.now in
    let left = g.S.Source.left c.read_groups-read.new.source in
    let is = c.in-Ok.ensures in
    IfOk-weaker c.counted_part.result _ _ (λ part read. read c.args.plan.now from left (g.S.Source.faults c.args.source.now) (g.S.Source.faults c.read_groups-read.new.source) is.groups is.end is.taken) c.counted_part.ensures.read

pub returns-in-Ok-size_after-clause-read : goal.returns-in-Ok-size_after-clause-read
returns-in-Ok-size_after-clause-read g c =
    let from = g.S.Source.left c.args.source.now in
    let is = c.in-Err-Refused.ensures in
    c.refused_part.ensures c.args.plan.now from (subst (Tells (of_text c.args.plan.now.reading) c.args.plan.now from) c.in-Err-Refused.field-0-is is.why) (c.in-Ok-size_after.ensures.size from (g.S.Source.faults c.args.source.now) is.taken)

pub returns-in-Err-size_after-clause-read_fault : goal.returns-in-Err-size_after-clause-read_fault
returns-in-Err-size_after-clause-read_fault g c = λ e.
    c.in-Err-size_after.ensures.read_fault e (g.S.Source.left c.args.source.now) (g.S.Source.faults c.args.source.now) c.in-Err-Refused.ensures.taken
