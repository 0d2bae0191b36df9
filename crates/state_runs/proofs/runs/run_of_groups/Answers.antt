use Rattle.std.proofs.Common.{◌∙◌, List, ap, arith, map, take_all}
use Rattle.result_text.specs.declared.order.GroupRef.{GroupRef}
use Rattle.state_save.specs.Saving.{tuples_at}
use Rattle.state_runs.specs.Runs.{entry_of}
use Rattle.state_runs.proofs.Making.{entries_more, no_ref}
use Rattle.state_runs.proofs.runs.run_of_groups.Goals as goal

pub push_tuple-requires-clause-place : goal.push_tuple-requires-clause-place
push_tuple-requires-clause-place c = c.requires.within c.loop-group.group-index no_ref c.loop-group-test.true

pub push_tuple-requires-clause-short : goal.push_tuple-requires-clause-short
push_tuple-requires-clause-short c = c.requires.short c.loop-group.group-index no_ref c.loop-group-test.true

pub loop-group-preserved : goal.loop-group-preserved
loop-group-preserved c = entries_more c.args.shape.now c.args.groups.now c.args.refs.now c.loop-group.group-index c.loop-group.run _ c.loop-group-test.true c.loop-group.invariant c.in_ok-run-2.ensures

pub returns : goal.returns
returns c =
    c.loop-group.invariant
    ∙ ap (λ (rs : List GroupRef). map (entry_of c.args.shape.now.kinds.now) (tuples_at c.args.shape.now c.args.groups.now rs)) (take_all c.loop-group.group-index c.args.refs.now (omega arith))
