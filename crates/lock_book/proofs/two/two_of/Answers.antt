use Rattle.lock_book.proofs.Uses.{both}
use Rattle.lock_book.proofs.two.two_of.Goals as goal

pub returns-clause-zero : goal.returns-clause-zero
returns-clause-zero g c = (both _ _ _ _ _ c.in-Some.ensures.items c.in-Some-pop.ensures.items c.requires).0

pub returns-clause-one : goal.returns-clause-one
returns-clause-one g c = (both _ _ _ _ _ c.in-Some.ensures.items c.in-Some-pop.ensures.items c.requires).1
