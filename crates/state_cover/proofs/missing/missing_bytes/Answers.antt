use Rattle.std.proofs.Common.{◌+◌, ◌∙◌, List, subst, sym}
use Rattle.state_cover.proofs.Gaps.{IsWholeTo, is_missing, rest_is, whole_more, whole_none}
use Rattle.state_cover.proofs.missing.missing_bytes.Goals as goal
use Rattle.state_head.specs.declared.cover.Stretch.{Stretch}

pub loop-source-init : goal.loop-source-init
loop-source-init c = whole_none c.args.sources c.args.cover.now c.requires

pub returns-in-Some-clause-some : goal.returns-in-Some-clause-some
returns-in-Some-clause-some c = is_missing c.args.sources c.args.cover.now c.loop-source.rest.now c.loop-source.source c.in-Some.gap c.loop-source-test.true c.loop-source.invariant c.in-Some.ensures.some

pub loop-source-preserved : goal.loop-source-preserved
loop-source-preserved c =
    let rest = c.loop-source.rest.now in
    let b = c.in-None.ensures.none in
    subst (λ (ss : List Stretch). IsWholeTo c.args.sources c.args.cover.now ss (c.loop-source.source + 1)) (sym (c.after_first-rest.ensures ∙ rest_is c.loop-source.source rest b)) (whole_more c.args.sources c.args.cover.now rest c.loop-source.source c.loop-source.invariant b)
