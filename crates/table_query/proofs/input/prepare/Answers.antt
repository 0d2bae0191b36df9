use Rattle.std.proofs.Common.{rules, ◌∙◌, Option, subst, sym}
use Rattle.std.proofs.lemmas.Result.{err_from_is_err_and}
use Rattle.par_model.specs.Named.{NamedPlan}
use Rattle.table_query.specs.Stops.{IsExplained}
use Rattle.table_query.proofs.Outcomes.{by_records_bound, explained_rows, plan_is, ready_outcome, ready_records}
use Rattle.table_query.proofs.Inputs.{explained-words}
use Rattle.answer_text.specs.Words.{texts}
use Rattle.table_query.specs.Asked.{asked, plan_in}
use Rattle.table_query.proofs.input.prepare.Goals as goal

pub returns-in_err-plan-clause-why : goal.returns-in_err-plan-clause-why
returns-in_err-plan-clause-why g c =
    let p = err_from_is_err_and c.from_residual.result c.from_residual.ensures.1 in
    rw (p.1, p.2) (explained-words (asked c.args.wanted (texts c.args.words.now)) (g.S.Source.left c.args.source.now) c.in_err-plan.field-0.0 c.in_err-plan.ensures.usage)

pub returns-in_err-bound-clause-why : goal.returns-in_err-bound-clause-why
returns-in_err-bound-clause-why g c =
    let left = g.S.Source.left c.args.source.now in
    let query = asked c.args.wanted (texts c.args.words.now) in
    let why = c.in_err-bound.field-0.0 in
    let here : IsExplained (plan_in query) left why =
    subst (λ (p : Option NamedPlan). IsExplained p left why) (sym (plan_is query c.in_ok-plan.plan c.in_ok-plan.ensures.plan))
    (explained_rows c.in_ok-plan.plan.plan left c.in_ok-rows.rows why c.in_ok-rows.ensures.records c.in_err-bound.ensures.why) in
    search rules

pub returns-clause-ready : goal.returns-clause-ready
returns-clause-ready g c =
    let left = g.S.Source.left c.args.source.now in
    let query = asked c.args.wanted (texts c.args.words.now) in
    let plan = c.in_ok-plan.plan in
    let rows = c.in_ok-rows.rows in
    let bound = c.in_ok-bound.bound in
    let some = c.in_ok-rows.ensures.some in
    let b = c.in_ok-bound.ensures in
    record {
      query = c.in_ok-plan.ensures.plan;
      bound = record { is = b.bound; columns = b.columns; plain = b.plain ∙ c.in_ok-plan.ensures.plain; some = some.0; few = some.1 };
      records = ready_records left rows c.in_ok-rows.ensures.records;
      outcome = ready_outcome query left rows plan bound c.in_ok-plan.ensures.plan c.in_ok-rows.ensures.records (by_records_bound plan.plan rows bound some.0 some.1 b.whole b.bound);
    }
