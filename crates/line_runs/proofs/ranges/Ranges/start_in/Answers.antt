use Rattle.std.proofs.Common.{ℕ, subst, sym}
use Rattle.line_runs.specs.Ranges.{IsCutAt}
use Rattle.line_runs.proofs.Cuts.{cut_of_place, first_cut}
use Rattle.line_runs.proofs.ranges.Ranges.start_in.Goals as goal

pub returns-in-Some : goal.returns-in-Some
returns-in-Some c =
    let some = c.in-Some.ensures.some in
    cut_of_place c.args.self.now c.args.range c.args.run.now c.in-Some.key c.place_after.result c.requires.ordered some.0 c.requires.range some.1 c.place_after.ensures

pub returns-in-None : goal.returns-in-None
returns-in-None c = subst (λ (n : ℕ). IsCutAt c.args.self.now n c.args.run.now 0) (sym (c.key_before.ensures.none c.in-None.is)) (first_cut c.args.self.now c.args.run.now)
