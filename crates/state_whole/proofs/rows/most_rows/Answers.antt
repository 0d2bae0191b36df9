use Rattle.std.proofs.Common.{◌≡◌, arith, length, subst}
use Rattle.partial_agg.specs.Listed.{listed}
use Rattle.state_whole.proofs.Bounds.{IsMostTo, all_bound, has_most, most_more, none_most}
use Rattle.state_whole.proofs.rows.most_rows.Goals as goal

pub loop-at-init : goal.loop-at-init
loop-at-init c = none_most c.lent-groups.result

pub loop-at-preserved : goal.loop-at-preserved
loop-at-preserved c =
    let one = c.larger-most.ensures in
    most_more c.lent-groups.result c.loop-at.at c.loop-at.most c.read_state.new.state.rows c.larger-most.result c.loop-at.invariant c.read_state.ensures.rows one.first one.second one.one

pub returns-clause-bound : goal.returns-clause-bound
returns-clause-bound c =
    let end : c.loop-at.at ≡ length c.lent-groups.result = omega arith in
    all_bound (listed c.args.map.now) c.lent-groups.result c.loop-at.most c.lent-groups.ensures.groups (subst (λ n. IsMostTo c.lent-groups.result n c.loop-at.most) end c.loop-at.invariant)

pub returns-clause-reached : goal.returns-clause-reached
returns-clause-reached c =
    let end : c.loop-at.at ≡ length c.lent-groups.result = omega arith in
    has_most (listed c.args.map.now) c.lent-groups.result c.loop-at.most c.lent-groups.ensures.groups (subst (λ n. IsMostTo c.lent-groups.result n c.loop-at.most) end c.loop-at.invariant)
