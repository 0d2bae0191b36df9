use Rattle.std.proofs.Common.{◌≡◌, ◌<◌, ◌+◌, ◌-◌, ◌∙◌, sym, ap, rules, length}
use Rattle.csv_rows.proofs.Gaps.{start-first, start-next}
use Rattle.csv_rows.proofs.piece.span.Goals as goal
use Rattle.csv_rows.proofs.piece.span.Goals.{then-i-eq0, else-i-eq0}

pub returns-clause-start : goal.returns-clause-start
returns-clause-start c = elim c.if-i-eq0.branch [
  | then-i-eq0 w ↦ rw (w.start-is, w.if-i-eq0.true) (sym (start-first c.args.gap 0 _))
  | else-i-eq0 w ↦
      let one : (c.args.i - 1) + 1 ≡ c.args.i = search rules in
      let lt : (c.args.i - 1) + 1 < length c.args.ends.now.items = rw one c.requires in
      let e = rw one at (start-next c.args.gap 0 c.args.ends.now.items (c.args.i - 1) w.index.result.now lt) in
      w.start-is ∙ ap (λ n. n + c.args.gap) w.index.ensures ∙ sym e
]
