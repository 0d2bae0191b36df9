use Rattle.std.proofs.Common.{◌∙◌, sym, ap, arith, length}
use Rattle.lock_book.specs.History.{last_of}
use Rattle.uses_book.specs.Drawers.{held_word}
use Rattle.lock_book.proofs.Uses.{only}
use Rattle.uses_book.proofs.Sums.{first_of}
use Rattle.uses_book.proofs.tests.one_drawer.Goals as goal

pub returns-clause-own : goal.returns-clause-own
returns-clause-own c = let s = c.in_ok-shelf.ensures in
    (s.passes.each 0 c.in-Some.pass (only _ _ _ c.in-Some.ensures.items (s.passes.count ∙ s.counts.1)), omega (arith, s.counts.0, ap length c.in_ok-push.ensures.items, ap length c.new-drawers.ensures.items))

pub returns-clause-name : goal.returns-clause-name
returns-clause-name c = λ o at.
    let n = c.new.ensures in
    let first = first_of _ _ _ _ _ o c.in_ok-shelf.ensures.opens c.in_ok-push.ensures.items c.new-drawers.ensures.items at in
    (ap (λ z. z.0.region) (sym first) ∙ ap (λ p. p.region) n.1, ap (λ z. z.0.at) (sym first) ∙ n.2)

pub returns-clause-empty : goal.returns-clause-empty
returns-clause-empty c = λ o at.
    let s = c.in_ok-shelf.ensures in
    let first = first_of _ _ _ _ _ o s.opens c.in_ok-push.ensures.items c.new-drawers.ensures.items at in
    let fresh = (s.fresh 0 c.in-Some.pass (only _ _ _ c.in-Some.ensures.items (s.passes.count ∙ s.counts.1)) 0).0 in
    ap (last_of o.1) fresh ∙ (ap (λ z. z.1) (sym first) ∙ ap (λ h. held_word h c.new.result.drawer.word) c.new.ensures.3)
