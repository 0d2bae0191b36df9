use Rattle.std.proofs.Common.{◌≡◌, ap, refl}
use Rattle.std.specs.Prelude.{Err}
use Rattle.plan_spec.specs.declared.plan.PlanAnswer.TheVariants as answer
use Rattle.plan_spec.specs.Query.{stream_query_of}
use Rattle.plan_spec.proofs.Values.{without-table}
use Rattle.plan_spec.proofs.plan.Plan.of_stream_words.Goals as goal

pub returns-in-Err-clause-usage : goal.returns-in-Err-clause-usage
unfolding stream_query_of
returns-in-Err-clause-usage c = λ h.
    let same : c.in-Err.answer ≡ answer.Usage = cc h in
    rw (c.in-Err.ensures.refuses (ap Err same)) refl

pub returns-in-Ok-clause-plan : goal.returns-in-Ok-clause-plan
unfolding stream_query_of
returns-in-Ok-clause-plan c =
    let g = c.in-Ok.ensures in
    rw (g.takes, ← g.group, ← g.agg, ← g.filters, ← g.decimals, ← g.workers, ← g.separator, ← g.nulls, ← g.trim) (rw (without-table c.in-Ok.given g.plan.0 g.plan.1 g.texts) at c.read_values.ensures.plan)

pub returns-in-Ok-clause-usage : goal.returns-in-Ok-clause-usage
unfolding stream_query_of
returns-in-Ok-clause-usage c =
    let g = c.in-Ok.ensures in
    rw (g.takes, ← g.group, ← g.agg, ← g.filters, ← g.decimals, ← g.workers, ← g.separator, ← g.nulls, ← g.trim) (rw (without-table c.in-Ok.given g.plan.0 g.plan.1 g.texts) at c.read_values.ensures.usage)
