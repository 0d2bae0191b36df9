use Rattle.std.proofs.Common.{All, ℕ, subst, sym}
use Rattle.std.proofs.lemmas.Result.{IfOk-weaker}
use Rattle.line_runs.specs.Runs.{Rise}
use Rattle.line_runs.proofs.Together.{made_in_order}
use Rattle.line_runs.proofs.sorted.sorted_runs.Goals as goal

pub range_runs-requires-clause-rise : goal.range_runs-requires-clause-rise
range_runs-requires-clause-rise g c κs within = subst (λ (n : ℕ). All (Rise n) c.args.runs.now) (sym c.in_ok-ranges.ensures.columns) c.requires.rise

pub returns : goal.returns
returns g c =
    IfOk-weaker c.all_made.result _ _ (λ runs is.
    made_in_order c.in_ok-ranges.ranges c.args.columns c.args.runs.now runs.items c.in_ok-made.made.items c.in_ok-ranges.ensures.columns c.in_ok-made.ensures is) c.all_made.ensures
