use Rattle.std.proofs.Common.{◌≡◌, ◌<◌, List, length, get_or, subst, arith}
use Rattle.join_pairs.specs.declared.pairing.Finding.{Finding}
use Rattle.join_pairs.proofs.Collecting.{many_reason, stopped_reason}
use Rattle.join_pairs.proofs.pairing.collect.Goals as goal

pub returns-in-Some-clause-none : goal.returns-in-Some-clause-none
returns-in-Some-clause-none c = stopped_reason c.args.findings.now.items c.in-Some.why c.in-Some.ensures.some

pub returns-then-len-clause-none : goal.returns-then-len-clause-none
returns-then-len-clause-none c =
    let i = c.loop-finding.finding-index in
    let f = c.finding-item.result in
    let value = c.deref-finding-items.ensures.value in
    many_reason c.args.findings.now.items i f c.loop-finding.all.items (subst (λ (l : List Finding). i < length l) value c.loop-finding-test.true)
    (subst (λ (l : List Finding). f ≡ get_or l i f) value c.finding-item.is) c.loop-finding.invariant.0
    (omega (arith, c.if-len.true, c.len.ensures, c.len-in-loop-finding.ensures, c.loop-finding.invariant.1)) c.in_default.ensures.none
