use Rattle.std.proofs.Common.{◌<◌, ◌≡◌, length, get_or, ap, arith}
use mathlib.Core.Option.{some}
use lib.ListN.{get_elem?}
use Rattle.atomic_table.proofs.Lists.{at_index}
use Rattle.par_barrier.specs.declared.barrier.BarrierPass.{BarrierPass}
use Rattle.lock_book.proofs.Totals.{there}
use Rattle.par_barrier.specs.Shown.{HasAttached}
use Rattle.par_barrier.proofs.Attached.{all_next, below, done_next, rest_next}
use Rattle.par_barrier.proofs.barrier.Barrier.attach_all.Goals as goal

pub loop-pass-init : goal.loop-pass-init
loop-pass-init g c = record { all = c.requires.all; done = λ k p q low. absurd (omega arith); rest = λ k q high at. at }

pub attach-answer-requires : goal.attach-answer-requires
attach-answer-requires g c =
    let ys = c.loop-pass.passes in
    let i = c.loop-pass.pass-index in
    let lt : i < length ys = omega (arith, c.loop-pass-test.true, c.loop-pass.auto.passes) in
    let is = ap (λ (d : BarrierPass). get_or ys i d) c.pass-item.is in
    record { own = (c.loop-pass.invariant.all.each i (get_or ys i c.pass-item.result) (at_index ys i (get_or ys i c.pass-item.result) lt is)).0 }

pub loop-pass-preserved : goal.loop-pass-preserved
loop-pass-preserved g c =
    let inv = c.loop-pass.invariant in
    let b = c.args.self.now in
    let xs = c.args.passes.now in
    let ys = c.loop-pass.passes in
    let i = c.loop-pass.pass-index in
    let p = get_or ys i c.pass-item.result in
    let q = c.attach-answer.new.pass in
    let lt : i < length ys = omega (arith, c.loop-pass-test.true, c.loop-pass.auto.passes) in
    let is = ap (λ (d : BarrierPass). get_or ys i d) c.pass-item.is in
    let at : get_elem? ys i ≡ some p = at_index ys i p lt is in
    let e = c.attach-answer.ensures in
    let did : HasAttached p q = (c.attach-answer.result, e.called) in
    record {
      all = all_next b xs ys i p q at inv.all inv.done inv.rest e.own did;
      done = done_next b xs ys i p q at inv.all inv.done inv.rest e.own did;
      rest = rest_next b xs ys i p q at inv.all inv.done inv.rest e.own did;
    }

pub returns-clause-attached : goal.returns-clause-attached
returns-clause-attached g c = λ k p q old new.
    let lt = below c.loop-pass.passes k q new in
    (c.loop-pass.invariant.done k p q (omega (arith, lt, c.loop-pass-test.false, c.loop-pass.auto.passes)) old new).0

pub returns-clause-take_part : goal.returns-clause-take_part
returns-clause-take_part g c = λ k q new.
    let lt = below c.loop-pass.passes k q new in
    let old = there c.args.passes.now k (omega (arith, lt, c.loop-pass.auto.passes)) in
    (c.loop-pass.invariant.done k old.0 q (omega (arith, lt, c.loop-pass-test.false, c.loop-pass.auto.passes)) old.1 new).1
