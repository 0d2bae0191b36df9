use Rattle.std.proofs.Common.{◌≡◌, ℕ, arith, length, subst}
use Rattle.line_runs.specs.Ranges.{AllAfter}
use Rattle.line_runs.proofs.Cuts.{all_joined, none_joined}
use Rattle.line_runs.proofs.ranges.place_after.Goals as goal

pub halves-init : goal.halves-init
halves-init c = record {
  up = omega arith;
  within = omega (arith, c.len-high.ensures);
  before = λ k from lt. absurd (omega (arith, lt));
  after = λ k from lt. absurd (omega (arith, from, lt, c.len-high.ensures));
}

pub half_of-from-requires-clause-within : goal.half_of-from-requires-clause-within
half_of-from-requires-clause-within c = c.halves.invariant.within

pub halves-preserved : goal.halves-preserved
halves-preserved c =
    let count = c.args.columns in
    let run = c.args.run.now in
    let key = c.args.key.now in
    let inv = c.halves.invariant in
    let half = c.half_of-from.ensures in
    record {
      up = half.up.1;
      within = omega (arith, half.up.2, inv.within);
      before = none_joined count run key 0 c.halves.low c.half_of-from.result.0 inv.before half.before;
      after = all_joined count run key c.half_of-from.result.1 c.halves.high (length run) half.after inv.after;
    }

pub halves-smaller : goal.halves-smaller
halves-smaller c = c.half_of-from.ensures.fewer

pub returns : goal.returns
returns c =
    let inv = c.halves.invariant in
    record {
      within = omega (arith, inv.up, inv.within);
      before = inv.before;
      after = subst (λ (n : ℕ). AllAfter c.args.columns c.args.run.now c.args.key.now n (length c.args.run.now)) (let e : c.halves.high ≡ c.halves.low = omega (arith, inv.up, c.halves-test.false) in e) inv.after;
    }
