use Rattle.std.proofs.Common.{◌≡◌, ◌<◌, ◌≤◌, All, None, List, length, get_or, sym, subst}
use Rattle.std.proofs.lemmas.List.{take_all}
use Rattle.join_pairs.specs.declared.pairing.Finding.{Finding}
use Rattle.join_pairs.proofs.Collecting.{all_more}
use Rattle.join_pairs.proofs.pairing.first_stop.Goals as goal

abbrev did_not_stop : Finding → Type 0
did_not_stop f = f.stopped ≡ None

pub returns-in-Some-clause-some : goal.returns-in-Some-clause-some
returns-in-Some-clause-some c =
    let i = c.loop-finding.finding-index in
    let f = c.finding-item.result in
    let value = c.deref-finding-items.ensures.value in
    (i, f, subst (λ (l : List Finding). i < length l) value c.loop-finding-test.true, subst (λ (l : List Finding). get_or l i f ≡ f) value (sym c.finding-item.is), c.in-Some.is)

pub loop-finding-preserved : goal.loop-finding-preserved
loop-finding-preserved c =
    let i = c.loop-finding.finding-index in
    let f = c.finding-item.result in
    let value = c.deref-finding-items.ensures.value in
    all_more did_not_stop c.args.findings.now.items i f (subst (λ (l : List Finding). i < length l) value c.loop-finding-test.true) (subst (λ (l : List Finding). f ≡ get_or l i f) value c.finding-item.is) c.loop-finding.invariant
    c.in_default.is

pub returns-clause-none : goal.returns-clause-none
returns-clause-none c =
    let i = c.loop-finding.finding-index in
    let all = c.args.findings.now.items in
    subst (All did_not_stop) (take_all i all (subst (λ (l : List Finding). length l ≤ i) c.deref-finding-items.ensures.value c.loop-finding-test.false)) c.loop-finding.invariant
