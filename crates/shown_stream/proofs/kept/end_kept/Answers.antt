use Rattle.shown_stream.proofs.Ends.{ends_unwritten}
use Rattle.shown_stream.proofs.kept.end_kept.Goals as goal

pub returns-in-Err-clause-why : goal.returns-in-Err-clause-why
returns-in-Err-clause-why g c = λ _.
    ends_unwritten c.in-Err.stop c.args.status c.args.said.now.bytes.items c.args.said.now.faults c.end.result
    (g.E.Sink.taken c.args.err.now) (g.E.Sink.taken c.end.new.err) (g.E.Sink.faults c.args.err.now) (g.E.Sink.faults c.end.new.err)
    c.if-status-eq-TABLE.true c.in-Err.ensures.why c.end.ensures.status c.end.ensures.said
