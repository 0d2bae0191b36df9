use Rattle.answer_text.specs.Words.{texts}
use Rattle.plan_spec.specs.Query.{stream_query_of}
use Rattle.stream_groups.specs.Sources.{bare_left}
use Rattle.shown_stream.proofs.Tables.{plain_part, plain_shown}
use Rattle.shown_stream.proofs.show_query.Goals as goal

pub returns-then-is_plain-clause-table : goal.returns-then-is_plain-clause-table
returns-then-is_plain-clause-table g c = λ is.
    let plain = c.is_plain.ensures c.if-is_plain.true in
    plain_shown c.args.how (stream_query_of (texts c.args.words.now)) (bare_left g.S.Source.left c.args.source.now)
    (g.O.Sink.taken c.args.out.now) (g.O.Sink.taken c.stream_table.new.out) plain.0 plain.1 plain.2 (c.stream_table.ensures.table is)

pub returns-then-is_plain-clause-part : goal.returns-then-is_plain-clause-part
returns-then-is_plain-clause-part g c = λ is.
    let plain = c.is_plain.ensures c.if-is_plain.true in
    plain_part c.args.how (stream_query_of (texts c.args.words.now)) (bare_left g.S.Source.left c.args.source.now)
    (g.O.Sink.taken c.args.out.now) (g.O.Sink.taken c.stream_table.new.out) plain.0 plain.1 plain.2 (c.stream_table.ensures.part is)
