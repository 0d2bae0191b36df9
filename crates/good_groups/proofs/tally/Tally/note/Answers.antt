use Rattle.std.proofs.Common.{◌≤◌, ◌∙◌, ℕ, ap, arith, sym}
use Rattle.csv_rows.specs.Readings.{records_as}
use Rattle.csv_rows.specs.Records.{record_at}
use Rattle.par_model.specs.Refuse.{refusal}
use Rattle.plan_spec.specs.Query.{Query}
use Rattle.good_groups.specs.declared.tally.Tally.{Tally}
use Rattle.good_groups.proofs.Ends.{too_many}
use Rattle.good_groups.proofs.Rows.{alone}
use Rattle.good_groups.proofs.tally.Tally.note.Goals as goal

pub returns-then-self-rules-clause-many : goal.returns-then-self-rules-clause-many
returns-then-self-rules-clause-many c = λ e o left rows rest are next has.
    let r = c.args.rules.now in
    let line = c.args.line.now in
    let row = record_at (records_as r.plan.now.reading line) 0 in
    let one = ap (λ (q : Query). records_as q.reading line) (sym are.query) ∙ alone (records_as r.plan.now.reading line) c.requires.one in
    let bad = ap (λ (n : ℕ). refusal r.bound.now n row) (sym are.width) ∙ c.requires.cause in
    let full : o.most ≤ c.args.self.now.count = omega (arith, c.if-self-rules.true, are.most, ap (λ (t : Tally). t.count) c.in_ok-know.ensures.same) in
    too_many o r c.args.self.now rows (records_as o.query.reading line) row c.args.why are has full one bad next.begins
