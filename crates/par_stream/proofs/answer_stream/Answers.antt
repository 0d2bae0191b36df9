use Rattle.std.proofs.Common.{◌≡◌, rules}
use Rattle.std.proofs.lemmas.Result.{IfErr-weaker, on_ok_weaker}
use Rattle.answer_text.specs.Words.{texts}
use Rattle.plan_spec.specs.Query.{stream_query_of}
use Rattle.stream_groups.specs.Before.{ReadBeforeOf}
use Rattle.stream_groups.specs.Sources.{bare_left}
use Rattle.stream_groups.specs.Ways.{of_bytes}
use Rattle.stream_groups.specs.declared.stop.Stop.TheVariants as stop
use Rattle.par_stream.proofs.Tables.{asked_part, asked_table, unwritten_tells}
use Rattle.par_stream.proofs.answer_stream.Goals as goal

pub returns-clause-table : goal.returns-clause-table
returns-clause-table g c =
    let query = c.in_ok-plan.plan in
    let left = bare_left g.S.Source.left c.args.source.now in
    on_ok_weaker c.write_table.result (λ wrote.
    asked_table query (stream_query_of (texts c.args.words.now)) c.in_ok-plan.ensures.plan left (g.O.Sink.taken c.args.out.now) (g.O.Sink.taken c.write_table.new.out)
    (wrote (of_bytes query.reading) left c.in_ok-read.ensures.groups)) c.write_table.ensures.table

pub returns-clause-part : goal.returns-clause-part
returns-clause-part g c =
    let query = c.in_ok-plan.plan in
    let left = bare_left g.S.Source.left c.args.source.now in
    IfErr-weaker c.write_table.result _ _ (λ why wrote is.
    asked_part query (stream_query_of (texts c.args.words.now)) c.in_ok-plan.ensures.plan left (g.O.Sink.taken c.args.out.now) (g.O.Sink.taken c.write_table.new.out)
    (wrote is (of_bytes query.reading) left c.in_ok-read.ensures.groups)) c.write_table.ensures.part

pub returns-clause-why : goal.returns-clause-why
returns-clause-why g c =
    let left = bare_left g.S.Source.left c.args.source.now in
    IfErr-weaker c.write_table.result _ _ (λ why kind. unwritten_tells c.in_ok-plan.plan (stream_query_of (texts c.args.words.now)) c.in_ok-plan.ensures.plan c.in_ok-read.field-0 left c.in_ok-read.ensures.groups why kind) c.write_table.ensures.why

pub returns-in_err-read-clause-read_before : goal.returns-in_err-read-clause-read_before
returns-in_err-read-clause-read_before g c =
    let asked = stream_query_of (texts c.args.words.now) in
    let old = bare_left g.S.Source.left c.args.source.now in
    let new = bare_left g.S.Source.left c.read_input-read.new.source in
    let here : c.in_err-read.field-0.0 ≡ stop.ReadFault → ReadBeforeOf asked old new c.args.window_bytes = λ e. (c.in_ok-plan.plan, c.in_ok-plan.ensures.plan, c.in_err-read.ensures.read_before e) in
    search rules
