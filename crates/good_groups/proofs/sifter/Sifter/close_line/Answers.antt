use Rattle.std.proofs.Common.{◌≤◌, ◌+◌, ◌++◌, ◌∷◌, ◌∙◌, [], List, ℕ, ap, arith, length, subst, sym}
use Rattle.csv_rows.specs.Readings.{records_as}
use Rattle.csv_rows.specs.Records.{records_of}
use Rattle.csv_rows.specs.declared.cleaning.Reading.{Reading}
use Rattle.par_model.specs.Refuse.{refusal}
use Rattle.plan_spec.specs.Query.{Query}
use Rattle.good_rows.specs.Judging.{IsJudged}
use Rattle.good_rows.proofs.Left.{begun_few}
use Rattle.good_groups.specs.Counted.{IsFirst, IsNext}
use Rattle.good_groups.specs.declared.tally.Tally.{Tally}
use Rattle.good_groups.specs.declared.sifter.Sifter.{Sifter}
use Rattle.good_groups.proofs.Counting.{count_good, count_none, count_out, first_later}
use Rattle.good_groups.proofs.sifter.Sifter.close_line.Goals as goal
use Rattle.good_groups.proofs.sifter.Sifter.close_line.Goals.{in-Good+in_ok-put-in-Good, in-Nothing+in_ok-put-in-Nothing, in-Refused+in_ok-note-in-Refused+in_ok-put-in-Refused}

pub judge-requires-clause-few : goal.judge-requires-clause-few
judge-requires-clause-few c =
    subst (λ (t : List ℕ). length (records_of t) ≤ 1) (sym c.as_slice-line.ensures.value) (begun_few c.args.self.now.line.items c.args.self.now.place c.requires.ready.begun)

pub returns-clause-counts : goal.returns-clause-counts
returns-clause-counts c = λ o left rows rest are next has.
    let r = c.args.rules.now in
    let bound = r.bound.now in
    let t = c.args.self.now.tally in
    let line = c.args.self.now.line.items in
    let width = length o.header in
    let given = c.as_slice-line.result.now in
    let recs = ap (λ (q : Reading). records_as q given) (c.reading.ensures.value ∙ ap (λ (q : Query). q.reading) are.query) ∙ ap (records_as o.query.reading) c.as_slice-line.ensures.value in
    let judged : IsJudged c.reading.result.now bound r.width given c.in_ok-judge.field-0 = c.in_ok-judge.ensures in
    let now : Tally = record { rows = c.match-branch-3.self.tally.rows; feeds = c.in_ok-feeds.feeds; count = c.match-branch-3.self.tally.count; first = c.match-branch-3.self.tally.first } in
    elim c.match-branch-3.branch [
      | in-Nothing+in_ok-put-in-Nothing w ↦
          let none = subst (IsJudged c.reading.result.now bound r.width given) w.in-Nothing.is judged in
          let is = w.self-is in
          count_none o bound t now rows (records_as o.query.reading line) (sym recs ∙ none) (ap (λ (s : Sifter). s.tally.rows) is) (ap (λ (s : Sifter). s.tally.count) is) (ap (λ (s : Sifter). s.tally.first) is) has
      | in-Good+in_ok-put-in-Good w ↦
          let good = subst (IsJudged c.reading.result.now bound r.width given) w.in-Good.is judged in
          let is = w.self-is in
          count_good o bound t now rows (records_as o.query.reading line) good.0 (sym recs ∙ good.1) (ap (λ (n : ℕ). refusal bound n good.0) (sym are.width) ∙ good.2) (ap (λ (s : Sifter). s.tally.rows) is) (omega (arith, c.if-self-ge-MOST_ROWS.false))
          (ap (λ (s : Sifter). s.tally.count) is) (ap (λ (s : Sifter). s.tally.first) is) has
      | in-Refused+in_ok-note-in-Refused+in_ok-put-in-Refused w ↦
          let bad = subst (IsJudged c.reading.result.now bound r.width given) w.in-Refused.is judged in
          let is = w.self-is in
          let noted = w.in_ok-note-in-Refused.ensures in
          let known = noted.not o left rows rest are (subst (λ (l : List ℕ). IsNext o left r t.feeds rows l rest) (sym c.as_slice-line.ensures.value) next) has in
          let first = first_later o bound rows (rows ++ bad.0 ∷ []) w.note.new.self.first noted.some known.first in
          count_out o bound t now rows (records_as o.query.reading line) bad.0 w.in-Refused.why (sym recs ∙ bad.1) (ap (λ (n : ℕ). refusal bound n bad.0) (sym are.width) ∙ bad.2)
          (ap (λ (s : Sifter). s.tally.rows) is ∙ ap (λ (x : Tally). x.rows + 1) noted.same) (omega (arith, c.if-self-ge-MOST_ROWS.false)) (ap (λ (s : Sifter). s.tally.count) is ∙ ap (λ (x : Tally). x.count + 1) noted.same)
          (omega (arith, noted.less, are.most, ap (λ (x : Tally). x.count) noted.same)) (subst (IsFirst o bound (rows ++ bad.0 ∷ [])) (sym (ap (λ (s : Sifter). s.tally.first) is)) first) has
    ]
