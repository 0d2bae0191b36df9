use Rattle.std.proofs.Common.{◌≡◌, ◌∙◌, ℕ, List, ◌++◌, drop, length, take, ap, sym, subst}
use Rattle.std.proofs.Math.Seq.{take-append_seam}
use Rattle.par_barrier.specs.Shown.{AreAll}
use Rattle.uses_book.proofs.Popped.{three}
use Rattle.uses_book.proofs.barriers.for_three.Goals as goal

-- the list of passes after a call over all of them
after : {A : Type 0} (old new : List A) (n : ℕ) → n ≡ length new → take n (new ++ drop (length new) old) ≡ new
after {A} old new n e = ap (λ (k : ℕ). take k (new ++ drop (length new) old)) e ∙ take-append_seam new (drop (length new) old)

pub returns-clause-zero : goal.returns-clause-zero
returns-clause-zero g c =
    let s = c.in_ok-barrier.ensures in
    let items = after c.in_ok-barrier.passes.items c.attach_all.new.passes c.in_ok-barrier.passes.len (sym c.as_mut_slice.ensures.len ∙ sym c.attach_all.auto.passes) in
    let all = subst (AreAll c.in_ok-barrier.barrier) (sym items) c.attach_all.ensures.all in
    let at = (three _ _ _ _ _ _ _ c.in-Some.ensures.items c.in-Some-pop.ensures.items c.in-Some-pop-2.ensures.items (all.count ∙ s.callers)).0 in
    (all.each 0 c.in-Some-pop-2.zero at).0

pub returns-clause-one : goal.returns-clause-one
returns-clause-one g c =
    let s = c.in_ok-barrier.ensures in
    let items = after c.in_ok-barrier.passes.items c.attach_all.new.passes c.in_ok-barrier.passes.len (sym c.as_mut_slice.ensures.len ∙ sym c.attach_all.auto.passes) in
    let all = subst (AreAll c.in_ok-barrier.barrier) (sym items) c.attach_all.ensures.all in
    let at = (three _ _ _ _ _ _ _ c.in-Some.ensures.items c.in-Some-pop.ensures.items c.in-Some-pop-2.ensures.items (all.count ∙ s.callers)).1 in
    (all.each 1 c.in-Some-pop.one at).0

pub returns-clause-two : goal.returns-clause-two
returns-clause-two g c =
    let s = c.in_ok-barrier.ensures in
    let items = after c.in_ok-barrier.passes.items c.attach_all.new.passes c.in_ok-barrier.passes.len (sym c.as_mut_slice.ensures.len ∙ sym c.attach_all.auto.passes) in
    let all = subst (AreAll c.in_ok-barrier.barrier) (sym items) c.attach_all.ensures.all in
    let at = (three _ _ _ _ _ _ _ c.in-Some.ensures.items c.in-Some-pop.ensures.items c.in-Some-pop-2.ensures.items (all.count ∙ s.callers)).2 in
    (all.each 2 c.in-Some.two at).0
