use Rattle.std.proofs.Common.{◌≡◌, ◌+◌, ◌∙◌, None, arith, sym}
use Rattle.csv_rows.specs.Records.{record_at}
use Rattle.par_model.specs.Refuse.{refusal}
use Rattle.partial_agg.specs.Rows.{header_width}
use Rattle.split_run.proofs.FirstRow.{accepted_on, all_accepted}
use Rattle.split_run.proofs.refused.first_refused.Goals as goal

pub loop-before-preserved : goal.loop-before-preserved
loop-before-preserved c =
    let plan = c.args.plan.now in
    let rows = c.args.rows.now in
    let at = c.loop-before.before in
    let fine : refusal plan (header_width rows) (record_at rows (at + 1)) ≡ None = sym c.refusal.ensures ∙ c.in-None.is in
    accepted_on plan rows at (omega arith) c.loop-before.invariant fine

pub returns-clause-none : goal.returns-clause-none
returns-clause-none c = λ none. all_accepted c.args.plan.now c.args.rows.now c.loop-before.before (omega arith) c.loop-before.invariant
