use Rattle.std.proofs.Common.{◌≡◌, ◌∙◌, ℕ, [], subst}
use Rattle.gather_run.specs.Used.{IsUsed}
use Rattle.plan_spec.specs.Query.{query_of}
use Rattle.answer_text.specs.Words.{texts}
use Rattle.group_query.proofs.Tables.{gather_explained, gather_first, made_given, none_given, part_given}
use Rattle.table_query.proofs.Outcomes.{no_workers}
use Rattle.table_query.proofs.RefusedRows.{refused_in-none}
use Rattle.group_query.proofs.answer_plan.Goals as goal

pub returns-clause-why : goal.returns-clause-why
returns-clause-why g c =
    gather_explained (query_of (texts c.args.words.now)) (g.S.Source.left c.args.source.now) c.in_ok-ready.ready c.in-Err.answer c.stop_of_gather.result c.in_ok-ready.ensures.ready c.in-Err.ensures.row c.stop_of_gather.ensures

pub returns-clause-first : goal.returns-clause-first
returns-clause-first g c none =
    let alone = c.workers.ensures.value ∙ no_workers (query_of (texts c.args.words.now)) c.in_ok-ready.ready.plan c.in_ok-ready.ensures.ready.query none in
    gather_first (query_of (texts c.args.words.now)) (g.S.Source.left c.args.source.now) c.in_ok-ready.ready c.in-Err.answer c.stop_of_gather.result c.in_ok-ready.ensures.ready c.in-Err.ensures.row (c.in-Err.ensures.first alone)
    c.stop_of_gather.ensures

pub returns-in-Ok-clause-table : goal.returns-in-Ok-clause-table
returns-in-Ok-clause-table g c =
    let ready = c.in_ok-ready.ready in
    let done = c.in-Ok.gathered.finished in
    let Workers : ℕ → Type 0 = λ workers. IsUsed ready.bound ready.rows workers c.area_pages.result done in
    let Pages : ℕ → Type 0 = λ pages. IsUsed ready.bound ready.rows ready.plan.workers pages done in
    made_given (query_of (texts c.args.words.now)) (g.S.Source.left c.args.source.now) ready c.in-Ok.gathered c.write_gathered.result (g.O.Sink.taken c.args.out.now) (g.O.Sink.taken c.write_gathered.new.out) c.in_ok-ready.ensures.ready
    (refused_in-none ready.bound ready.rows c.in-Ok.ensures.groups.accepted) (subst Pages c.area_pages.ensures.value (subst Workers c.workers.ensures.value c.in-Ok.ensures.used)) c.write_gathered.ensures.given c.write_gathered.ensures.table

pub returns-in-Ok-clause-part : goal.returns-in-Ok-clause-part
returns-in-Ok-clause-part g c =
    let ready = c.in_ok-ready.ready in
    part_given (query_of (texts c.args.words.now)) (g.S.Source.left c.args.source.now) ready c.in-Ok.gathered c.write_gathered.result (g.O.Sink.taken c.args.out.now) (g.O.Sink.taken c.write_gathered.new.out) c.in_ok-ready.ensures.ready
    (refused_in-none ready.bound ready.rows c.in-Ok.ensures.groups.accepted) c.write_gathered.ensures.part

pub returns-in-Ok-clause-why : goal.returns-in-Ok-clause-why
returns-in-Ok-clause-why g c =
    let ready = c.in_ok-ready.ready in
    none_given (query_of (texts c.args.words.now)) (g.S.Source.left c.args.source.now) ready c.write_gathered.result c.in_ok-ready.ensures.ready (refused_in-none ready.bound ready.rows c.in-Ok.ensures.groups.accepted)
    c.write_gathered.ensures.why
