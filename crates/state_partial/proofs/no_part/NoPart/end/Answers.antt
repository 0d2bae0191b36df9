use Rattle.std.proofs.Common.{ℕ, List, subst, sym}
use Rattle.answer_text.specs.Lines.{IsSaid}
use Rattle.stream_groups.specs.Lines.{line}
use Rattle.state_partial.specs.NoPart.{no_part_says}
use Rattle.state_partial.specs.declared.no_part.NoPart.{NoPart}
use Rattle.state_partial.proofs.no_part.NoPart.end.Goals as goal

pub returns-in-Usage-clause-said : goal.returns-in-Usage-clause-said
returns-in-Usage-clause-said g c =
    subst (λ (why : NoPart). IsSaid (g.E.Sink.taken c.args.err.now) (g.E.Sink.taken c.say.new.err) (g.E.Sink.faults c.args.err.now) (g.E.Sink.faults c.say.new.err) (line (no_part_says why).1)) (sym c.in-Usage.is) c.say.ensures.said

pub returns-in-Untaken-clause-said : goal.returns-in-Untaken-clause-said
returns-in-Untaken-clause-said g c =
    let told = subst (λ (t : List ℕ). IsSaid (g.E.Sink.taken c.args.err.now) (g.E.Sink.taken c.say-in-Untaken.new.err) (g.E.Sink.faults c.args.err.now) (g.E.Sink.faults c.say-in-Untaken.new.err) (line t)) c.text.ensures c.say-in-Untaken.ensures.said in
    subst (λ (why : NoPart). IsSaid (g.E.Sink.taken c.args.err.now) (g.E.Sink.taken c.say-in-Untaken.new.err) (g.E.Sink.faults c.args.err.now) (g.E.Sink.faults c.say-in-Untaken.new.err) (line (no_part_says why).1)) (sym c.in-Untaken.is) told

pub returns-in-Long-clause-said : goal.returns-in-Long-clause-said
returns-in-Long-clause-said g c =
    subst (λ (why : NoPart). IsSaid (g.E.Sink.taken c.args.err.now) (g.E.Sink.taken c.say-in-Long.new.err) (g.E.Sink.faults c.args.err.now) (g.E.Sink.faults c.say-in-Long.new.err) (line (no_part_says why).1)) (sym c.in-Long.is) c.say-in-Long.ensures.said

pub returns-in-NoLine-clause-said : goal.returns-in-NoLine-clause-said
returns-in-NoLine-clause-said g c =
    subst (λ (why : NoPart). IsSaid (g.E.Sink.taken c.args.err.now) (g.E.Sink.taken c.say-in-NoLine.new.err) (g.E.Sink.faults c.args.err.now) (g.E.Sink.faults c.say-in-NoLine.new.err) (line (no_part_says why).1)) (sym c.in-NoLine.is) c.say-in-NoLine.ensures.said

pub returns-in-LongHeader-clause-said : goal.returns-in-LongHeader-clause-said
returns-in-LongHeader-clause-said g c =
    subst (λ (why : NoPart). IsSaid (g.E.Sink.taken c.args.err.now) (g.E.Sink.taken c.say-in-LongHeader.new.err) (g.E.Sink.faults c.args.err.now) (g.E.Sink.faults c.say-in-LongHeader.new.err) (line (no_part_says why).1)) (sym c.in-LongHeader.is) c.say-in-LongHeader.ensures.said

pub returns-in-Short-clause-said : goal.returns-in-Short-clause-said
returns-in-Short-clause-said g c =
    subst (λ (why : NoPart). IsSaid (g.E.Sink.taken c.args.err.now) (g.E.Sink.taken c.say-in-Short.new.err) (g.E.Sink.faults c.args.err.now) (g.E.Sink.faults c.say-in-Short.new.err) (line (no_part_says why).1)) (sym c.in-Short.is) c.say-in-Short.ensures.said

pub returns-in-Grown-clause-said : goal.returns-in-Grown-clause-said
returns-in-Grown-clause-said g c =
    subst (λ (why : NoPart). IsSaid (g.E.Sink.taken c.args.err.now) (g.E.Sink.taken c.say-in-Grown.new.err) (g.E.Sink.faults c.args.err.now) (g.E.Sink.faults c.say-in-Grown.new.err) (line (no_part_says why).1)) (sym c.in-Grown.is) c.say-in-Grown.ensures.said

pub returns-in-Stopped-clause-said : goal.returns-in-Stopped-clause-said
returns-in-Stopped-clause-said g c =
    subst (λ (why : NoPart). IsSaid (g.E.Sink.taken c.args.err.now) (g.E.Sink.taken c.end.new.err) (g.E.Sink.faults c.args.err.now) (g.E.Sink.faults c.end.new.err) (line (no_part_says why).1)) (sym c.in-Stopped.is) c.end.ensures.said
