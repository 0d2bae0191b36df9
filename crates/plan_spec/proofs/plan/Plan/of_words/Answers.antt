use Rattle.std.proofs.Common.{◌≡◌, ◌∙◌, [], Some, ap, codes, false, map, refl, string_bytes, sym, true}
use Rattle.std.proofs.lemmas.Result.{IfOk-weaker}
use Rattle.std.specs.Prelude.{Err}
use Rattle.csv_rows.specs.Readings.{plain}
use Rattle.par_model.specs.Plain.{is_plain_named}
use Rattle.plan_spec.specs.Given.{query_given}
use Rattle.plan_spec.specs.Grammar.{filters_in}
use Rattle.plan_spec.specs.Options.{pargather_command, value_of}
use Rattle.plan_spec.specs.declared.plan.TheConstants.{MOST_AREA_PAGES, MOST_WORKERS}
use Rattle.plan_spec.specs.declared.read.TheConstants.{AREA_PAGES, WORKERS}
use Rattle.plan_spec.specs.declared.plan.PlanAnswer.TheVariants as answer
use Rattle.plan_spec.specs.Query.{Query, groups_given, hash_given, items_given, number_given, query_of, text_of}
use Rattle.plan_spec.proofs.Plain.{plain_filters, plain_query}
use Rattle.plan_spec.proofs.Values.{plain_reading, without-places}
use Rattle.plan_spec.proofs.plan.Plan.of_words.Goals as goal

pub returns-in-Err-clause-usage : goal.returns-in-Err-clause-usage
unfolding query_of
returns-in-Err-clause-usage c = λ h.
    let same : c.in-Err.answer ≡ answer.Usage = cc h in
    rw (c.in-Err.ensures.refuses (ap Err same)) refl

pub returns-in-Ok-clause-plan : goal.returns-in-Ok-clause-plan
unfolding query_of
returns-in-Ok-clause-plan c =
    let g = c.in-Ok.ensures in
    rw (g.takes, ← g.group, ← g.agg, ← g.filters, ← g.plan, ← g.workers, ← g.area_pages) (rw (without-places c.in-Ok.given g.decimals g.texts (plain_reading c.in-Ok.given g.reading.0 g.reading.1 g.reading.2)) at c.read_values.ensures.plan)

pub returns-in-Ok-clause-usage : goal.returns-in-Ok-clause-usage
unfolding query_of
returns-in-Ok-clause-usage c =
    let g = c.in-Ok.ensures in
    rw (g.takes, ← g.group, ← g.agg, ← g.filters, ← g.plan, ← g.workers, ← g.area_pages) (rw (without-places c.in-Ok.given g.decimals g.texts (plain_reading c.in-Ok.given g.reading.0 g.reading.1 g.reading.2)) at c.read_values.ensures.usage)

pub returns-in-Ok-clause-plain : goal.returns-in-Ok-clause-plain
returns-in-Ok-clause-plain c =
    let g = c.in-Ok.ensures in
    let given = c.in-Ok.given in
    IfOk-weaker c.read_values.result (λ (q : Query). query_given given ≡ Some q) (λ (q : Query). is_plain_named q.plan ≡ true)
    (λ q e. plain_query (groups_given (text_of given.group)) (items_given [] (text_of given.agg)) (filters_in false [] (map (λ s. s.now) given.filters.items)) (hash_given (text_of given.plan))
    (number_given MOST_WORKERS WORKERS (text_of given.workers)) (number_given MOST_AREA_PAGES AREA_PAGES (text_of given.area_pages)) (Some plain) q
    (λ fs e. plain_filters (value_of pargather_command (codes "where") (map string_bytes c.args.words.now)) fs (sym (ap (filters_in false []) g.filters) ∙ e))
    (sym (without-places given g.decimals g.texts (plain_reading given g.reading.0 g.reading.1 g.reading.2)) ∙ e))
    c.read_values.ensures.plan
