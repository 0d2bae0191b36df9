use Rattle.std.proofs.Common.{Some}
use Rattle.answer_text.specs.Words.{texts}
use Rattle.plan_spec.specs.Query.{stream_query_of}
use Rattle.stream_groups.specs.Sources.{bare_left}
use Rattle.shown_stream.proofs.Ends.{why_kept}
use Rattle.shown_stream.proofs.Tables.{kept_part, kept_shown}
use Rattle.shown_stream.proofs.show_kept.Goals as goal

pub returns-clause-why : goal.returns-clause-why
returns-clause-why g c = λ no.
    let kept = c.stream_table-status in
    let said = c.new-said.result in
    why_kept (bare_left g.S.Source.left c.args.source.now) (stream_query_of (texts c.args.words.now)) c.in_default.field-0
    (Some c.new-table.result.bytes.items) (Some kept.new.out.bytes.items) kept.result c.end_kept.result said.bytes.items kept.new.err.bytes.items said.faults kept.new.err.faults
    (g.E.Sink.taken c.args.err.now) (g.E.Sink.taken c.end_kept.new.err) (g.E.Sink.faults c.args.err.now) (g.E.Sink.faults c.end_kept.new.err)
    c.in_default.ensures.plan c.new-said.ensures.none c.new-said.ensures.faults kept.ensures.why kept.ensures.table (c.end_kept.ensures.why no)

pub returns-clause-table : goal.returns-clause-table
returns-clause-table g c = λ is.
    let kept = c.stream_table-status in
    let puts = c.end_kept.ensures.table is in
    kept_shown c.args.how (stream_query_of (texts c.args.words.now)) (bare_left g.S.Source.left c.args.source.now) c.new-table.result.bytes.items kept.new.out.bytes.items
    (g.O.Sink.taken c.args.out.now) (g.O.Sink.taken c.end_kept.new.out) c.new-table.ensures.none (kept.ensures.table puts.0) puts.1

pub returns-clause-part : goal.returns-clause-part
returns-clause-part g c = λ is.
    let kept = c.stream_table-status in
    let puts = c.end_kept.ensures.part is in
    kept_part c.args.how (stream_query_of (texts c.args.words.now)) (bare_left g.S.Source.left c.args.source.now) c.new-table.result.bytes.items kept.new.out.bytes.items
    (g.O.Sink.taken c.args.out.now) (g.O.Sink.taken c.end_kept.new.out) c.new-table.ensures.none (kept.ensures.table puts.0) puts.1
