use Rattle.std.proofs.Common.{[], List, arith, subst, take_all}
use Rattle.std.proofs.lemmas.Result.{err_from_is_err_and}
use Rattle.result_text.specs.declared.order.GroupRef.{GroupRef}
use Rattle.state_save.specs.Saving.{tuples_at}
use Rattle.state_save.proofs.Pushed.{no_ref, none_put, one_long, one_put}
use Rattle.state_writer.specs.Writing.{Goes}
use Rattle.state_save.proofs.saving.push_each.Goals as goal

pub loop-group-init : goal.loop-group-init
loop-group-init c = none_put c.args.shape.now c.args.groups.now c.args.refs.now c.args.writer.now c.args.out.now.items

pub push_group-requires-clause-place : goal.push_group-requires-clause-place
push_group-requires-clause-place c = c.requires.within c.loop-group.group-index no_ref c.loop-group-test.true

pub loop-group-preserved : goal.loop-group-preserved
loop-group-preserved c =
    one_put c.args.shape.now c.args.groups.now c.args.refs.now c.loop-group.group-index c.args.writer.now c.loop-group.writer _ c.args.out.now.items c.loop-group.out.items _ c.loop-group-test.true c.loop-group.invariant c.in_ok-push_group.ensures.taken

pub returns-in_err-push_group-clause-long : goal.returns-in_err-push_group-clause-long
returns-in_err-push_group-clause-long c =
    let why = err_from_is_err_and c.from_residual.result c.from_residual.ensures.1 in
    rw (why.1, why.2) (λ start has e.
    one_long c.args.shape.now c.args.groups.now c.args.refs.now c.loop-group.group-index c.args.writer.now c.loop-group.writer c.args.out.now.items c.loop-group.out.items c.loop-group-test.true c.loop-group.invariant
    (λ start tuples written taken. c.in_err-push_group.ensures.long start tuples written taken e) start has)

pub returns-clause-taken : goal.returns-clause-taken
returns-clause-taken c = λ start has.
    let refs = c.args.refs.now in
    let all = take_all c.loop-group.group-index refs (omega arith) in
    subst (λ (rs : List GroupRef). Goes c.args.shape.now.kinds.now start (tuples_at c.args.shape.now c.args.groups.now rs) [] c.args.out.now.items c.loop-group.out.items c.loop-group.writer) all (c.loop-group.invariant start has)
