use Rattle.std.proofs.Common.{◌≡◌, ◌≤◌, ◌+◌, ◌^◌, ◌∙◌, ℕ, ap, arith, length, refl, sym, true}
use Rattle.std.specs.List.{list_all}
use Rattle.csv_rows.specs.Readings.{records_as}
use Rattle.csv_rows.specs.declared.cleaning.Reading.{Reading}
use Rattle.plan_spec.specs.Query.{Query}
use Rattle.row_blocks.specs.Blocks.{Table}
use Rattle.good_rows.specs.Good.{is_good}
use Rattle.good_groups.specs.declared.tally.Tally.{Tally}
use Rattle.good_groups.proofs.Counting.{count_all}
use Rattle.good_groups.proofs.sifter.Sifter.take_lines.Goals as goal

pub returns-clause-counts : goal.returns-clause-counts
returns-clause-counts c = λ e o left rows rest are next has.
    let bound = c.args.rules.now.bound.now in
    let t = c.args.self.now.tally in
    let line = c.args.self.now.line.items in
    let given = c.as_slice-lines.result.now in
    let width = length o.header in
    let recs : records_as c.reading.result.now given ≡ records_as o.query.reading line =
    ap (λ (q : Reading). records_as q given) (c.reading.ensures.value ∙ ap (λ (q : Query). q.reading) are.query) ∙ ap (records_as o.query.reading) c.as_slice-lines.ensures.value in
    let good : list_all (is_good bound width) (records_as o.query.reading line) ≡ true =
    sym (ap (λ (l : Table). list_all (is_good bound width) l) recs) ∙ ap (λ (n : ℕ). list_all (is_good bound n) (records_as c.reading.result.now given)) (sym are.width) ∙ c.in-Some.ensures.good in
    let now : Tally = record { rows = t.rows + c.in-Some.rows; feeds = c.in-Ok.feeds; count = t.count; first = t.first } in
    let few : now.rows ≤ 2 ^ 50 = omega (arith, c.if-rows-gt-MOST_ROWS.false, c.if-self-rows.false) in
    count_all o bound t now rows (records_as o.query.reading line) good (omega (arith, c.in-Some.ensures.count, ap length recs)) few refl refl has
