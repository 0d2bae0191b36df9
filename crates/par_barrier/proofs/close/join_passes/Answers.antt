use Rattle.std.proofs.Common.{[], ◌∷◌, arith}
use Rattle.par_barrier.proofs.Endings.{pass_before, pass_here, taken}
use Rattle.par_barrier.proofs.close.join_passes.Goals as goal

pub new-joined-requires-clause-own : goal.new-joined-requires-clause-own
new-joined-requires-clause-own c κs = (pass_here c.args.barrier.now c.args.passes.items c.pop.new.self.items [] c.in-Some.last c.in-Some.ensures.items c.requires.all).0

pub new-joined-requires-clause-last : goal.new-joined-requires-clause-last
new-joined-requires-clause-last c κs = pass_before c.args.barrier.now c.args.passes.items c.pop.new.self.items [] c.in-Some.last c.in-Some.ensures.items c.requires.all _ (omega arith)

pub join-joined-requires-clause-own : goal.join-joined-requires-clause-own
join-joined-requires-clause-own c κs = (pass_here c.args.barrier.now c.args.passes.items c.pop-in-loop-pass.new.self.items c.loop-pass.invariant.joined.0 c.in-Some-pop.pass (taken _ _ _ _ _ c.loop-pass.invariant.joined.1 c.in-Some-pop.ensures.items) c.requires.all).0

pub join-joined-requires-clause-before : goal.join-joined-requires-clause-before
join-joined-requires-clause-before c κs = pass_before c.args.barrier.now c.args.passes.items c.pop-in-loop-pass.new.self.items c.loop-pass.invariant.joined.0 c.in-Some-pop.pass (taken _ _ _ _ _ c.loop-pass.invariant.joined.1 c.in-Some-pop.ensures.items) c.requires.all _ c.loop-pass.invariant.joined.2.count

pub loop-pass-preserved : goal.loop-pass-preserved
loop-pass-preserved c =
    let i = c.loop-pass.invariant.joined in
    record { joined = (c.in-Some-pop.pass ∷ i.0, taken _ _ _ _ _ i.1 c.in-Some-pop.ensures.items, c.join-joined.ensures _ i.2) }
