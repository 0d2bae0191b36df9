use Rattle.std.proofs.Common.{◌∙◌, ap, arith, length}
use lib.ListN.{get_elem?}
use Rattle.lock_book.specs.Shown.{whole_of}
use Rattle.lock_book.proofs.Totals.{there}
use Rattle.uses_load.proofs.Counted.{value_is}
use Rattle.uses_load.proofs.lock.value_of.Goals as goal

pub returns : goal.returns
returns c =
    let v = c.in-Some.ensures.value in
    let ended = c.close-closed.ensures.ended in
    let all = c.requires.all in
    value_is _ _ v.0 (whole_of c.close-closed.result) _ _ _ (omega (arith, c.close-closed.ensures.left, c.requires.one.0, c.in-Some.ensures.some)) (c.close-closed.ensures.opens ∙ c.requires.one.1) v.1 v.3
    (ended.lawful 0 (tt, 0) (ap (λ l. get_elem? l 0) c.requires.one.1)) (ended.no_others 0)
    (λ m lt. let p = there c.args.passes.items m (omega (arith, all.count)) in ap length (ended.mine m 0 p.0 p.1) ∙ c.requires.each m p.0 p.1)
