use Rattle.std.proofs.Common.{◌≡◌, arith, length}
use Rattle.std.proofs.lemmas.List.{get_or_default}
use Rattle.state_total.proofs.Firsts.{all_counted, counted_more, first_at}
use Rattle.state_total.proofs.total.first_refused.Goals as goal

pub returns-in-Refused-clause-first : goal.returns-in-Refused-clause-first
returns-in-Refused-clause-first c = first_at c.args.cover.now c.loop-at.at _ _ (λ d. get_or_default c.args.cover.now c.loop-at.at _ d c.loop-at-test.true) c.loop-at-test.true c.in-Refused.is c.loop-at.invariant

pub loop-at-preserved : goal.loop-at-preserved
loop-at-preserved c = counted_more c.args.cover.now c.loop-at.at _ _ (λ d. get_or_default c.args.cover.now c.loop-at.at _ d c.loop-at-test.true) c.loop-at-test.true c.in-Counted.is c.loop-at.invariant

pub returns-clause-none : goal.returns-clause-none
returns-clause-none c =
    let end : c.loop-at.at ≡ length c.args.cover.now = omega arith in
    all_counted c.args.cover.now c.loop-at.at end c.loop-at.invariant
