use Rattle.std.proofs.Common.{◌<◌, [], All, List, length, subst, sym}
use Rattle.std.proofs.lemmas.Result.{err_from_is_err_and, on_ok_weaker}
use Rattle.result_text.specs.declared.order.GroupRef.{GroupRef}
use Rattle.state_save.specs.Saving.{tuples_at}
use Rattle.state_save.proofs.Pushed.{are_written}
use Rattle.state_save.proofs.Rising.{are_tuples}
use Rattle.state_writer.specs.Writing.{FitInBlocks, Goes}
use Rattle.state_save.proofs.saving.push_groups.Goals as goal

pub push_each-requires-clause-within : goal.push_each-requires-clause-within
push_each-requires-clause-within c = subst (λ (rs : List GroupRef). All (λ (r : GroupRef). r.at < length c.args.groups.now) rs) (sym c.deref.ensures.value) c.in_ok-refs.ensures.within

pub returns-in_err-push_each-clause-long : goal.returns-in_err-push_each-clause-long
returns-in_err-push_each-clause-long c =
    let shape = c.args.shape.now in
    let groups = c.args.groups.now in
    let refs = c.in_ok-refs.refs.items in
    let did = c.in_ok-refs.ensures in
    let are = are_tuples shape groups refs c.keys_rise.ensures c.requires.keys did.short did.same did.sorted in
    let why = err_from_is_err_and c.from_residual-in_err-push_each.result c.from_residual-in_err-push_each.ensures.1 in
    rw (why.1, why.2) (λ e. (
      tuples_at shape groups refs,
      are,
      λ fit. c.in_err-push_each.ensures.long c.args.at (c.new-writer.ensures shape.kinds.now) e (subst (λ (rs : List GroupRef). FitInBlocks shape.kinds.now c.args.at (tuples_at shape groups rs)) (sym c.deref.ensures.value) fit.in_blocks),
    ))

pub returns-clause-written : goal.returns-clause-written
returns-clause-written c =
    let shape = c.args.shape.now in
    let groups = c.args.groups.now in
    let refs = c.in_ok-refs.refs.items in
    let did = c.in_ok-refs.ensures in
    let are = are_tuples shape groups refs c.keys_rise.ensures c.requires.keys did.short did.same did.sorted in
    let goes = subst (λ (rs : List GroupRef). Goes shape.kinds.now c.args.at (tuples_at shape groups rs) [] c.args.out.now.items c.push_each.new.out.items c.push_each.new.writer) c.deref.ensures.value (c.in_ok-push_each.ensures.taken c.args.at (c.new-writer.ensures shape.kinds.now)) in
    on_ok_weaker c.finish.result (are_written shape groups c.args.at (tuples_at shape groups refs) c.args.out.now.items c.push_each.new.out.items c.finish.new.out.items c.push_each.new.writer are goes)
    (c.finish.ensures.ends shape.kinds.now c.args.at (tuples_at shape groups refs) goes.more goes.taken)

pub returns-clause-long : goal.returns-clause-long
returns-clause-long c = λ e.
    let shape = c.args.shape.now in
    let groups = c.args.groups.now in
    let refs = c.in_ok-refs.refs.items in
    let did = c.in_ok-refs.ensures in
    let are = are_tuples shape groups refs c.keys_rise.ensures c.requires.keys did.short did.same did.sorted in
    let goes = subst (λ (rs : List GroupRef). Goes shape.kinds.now c.args.at (tuples_at shape groups rs) [] c.args.out.now.items c.push_each.new.out.items c.push_each.new.writer) c.deref.ensures.value (c.in_ok-push_each.ensures.taken c.args.at (c.new-writer.ensures shape.kinds.now)) in
    (tuples_at shape groups refs, are, c.finish.ensures.long shape.kinds.now c.args.at (tuples_at shape groups refs) goes.more goes.taken e)
