use Rattle.std.proofs.Common.{ap}
use lib.ListN.{get_elem?}
use Rattle.uses_book.proofs.twice.close_two.Goals as goal

pub returns-clause-lawful : goal.returns-clause-lawful
returns-clause-lawful c = c.close.ensures.ended.lawful 0 (tt, 0) (ap (λ l. get_elem? l 0) c.requires.shelf.1)
