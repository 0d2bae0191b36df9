use Rattle.std.proofs.Common.{◌∙◌, ap}
use Rattle.answer_text.specs.Words.{texts}
use Rattle.plan_spec.specs.Query.{stream_query_of}
use Rattle.stream_groups.specs.Sources.{bare_left}
use Rattle.shown_stream.proofs.GoodEnds.{says_kept, why_good}
use Rattle.shown_stream.proofs.GoodTables.{good_part, good_shown}
use Rattle.shown_stream.proofs.good.show_good.Goals as goal

pub returns-clause-why : goal.returns-clause-why
returns-clause-why g c = λ no.
    let kept = c.good_table-status in
    let said = c.new-said.result in
    why_good (stream_query_of (texts c.args.words.now)) c.in_default.field-0 (bare_left g.S.Source.left c.args.source.now)
    kept.result c.end_good.result said.bytes.items kept.new.err.bytes.items said.faults kept.new.err.faults
    (g.E.Sink.taken c.args.err.now) (g.E.Sink.taken c.end_good.new.err) (g.E.Sink.faults c.args.err.now) (g.E.Sink.faults c.end_good.new.err)
    c.in_default.ensures.plan c.new-said.ensures.none c.new-said.ensures.faults kept.ensures.why (c.end_good.ensures.why no)

pub returns-clause-table : goal.returns-clause-table
returns-clause-table g c = λ is.
    let kept = c.good_table-status in
    let puts = c.end_good.ensures.table is in
    good_shown c.args.most c.args.how (stream_query_of (texts c.args.words.now)) (bare_left g.S.Source.left c.args.source.now) c.new-table.result.bytes.items kept.new.out.bytes.items
    (g.O.Sink.taken c.args.out.now) (g.O.Sink.taken c.end_good.new.out) c.new-table.ensures.none (kept.ensures.table puts.0) puts.1

pub returns-clause-part : goal.returns-clause-part
returns-clause-part g c = λ is.
    let kept = c.good_table-status in
    let puts = c.end_good.ensures.part is in
    good_part c.args.most c.args.how (stream_query_of (texts c.args.words.now)) (bare_left g.S.Source.left c.args.source.now) c.new-table.result.bytes.items kept.new.out.bytes.items
    (g.O.Sink.taken c.args.out.now) (g.O.Sink.taken c.end_good.new.out) c.new-table.ensures.none (kept.ensures.table puts.0) puts.1

pub returns-clause-told : goal.returns-clause-told
returns-clause-told g c = λ is.
    let kept = c.good_table-status in
    let said = c.new-said.result in
    let told = kept.ensures.told (c.end_good.ensures.table is).0 in (
      told.0,
      told.1,
      says_kept told.0 said.bytes.items kept.new.err.bytes.items said.faults kept.new.err.faults (g.E.Sink.taken c.args.err.now) (g.E.Sink.taken c.end_good.new.err)
          (g.E.Sink.faults c.args.err.now) (g.E.Sink.faults c.end_good.new.err) c.new-said.ensures.none c.new-said.ensures.faults (c.end_good.ensures.whole is) told.2 (c.end_good.ensures.told is),
      λ none. c.end_good.ensures.quiet is (ap (λ t. t.bytes.items) (told.3 none) ∙ c.new-said.ensures.none),
    )
