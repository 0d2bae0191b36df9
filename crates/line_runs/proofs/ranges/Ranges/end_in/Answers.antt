use Rattle.std.proofs.Common.{◌+◌, ℕ, arith, subst, sym}
use Rattle.line_runs.specs.Ranges.{IsCutAt}
use Rattle.line_runs.proofs.Cuts.{last_cut}
use Rattle.line_runs.proofs.ranges.Ranges.end_in.Goals as goal

pub returns : goal.returns
returns c =
    let r = c.args.self.now in
    let run = c.args.run.now in
    subst (λ (n : ℕ). IsCutAt r (c.args.range + 1) run n) (sym c.len.ensures) (last_cut r (c.args.range + 1) run (omega (arith, c.count.ensures, c.if-range-count.false)))
