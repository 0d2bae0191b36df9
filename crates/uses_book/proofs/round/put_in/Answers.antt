use Rattle.lock_book.proofs.Uses.{opens_at}
use Rattle.uses_book.proofs.round.put_in.Goals as goal

pub returns-in-Full-clause-back : goal.returns-in-Full-clause-back
returns-in-Full-clause-back g c = let o = opens_at c.args.shelf.now 0 c.requires.own.1 in c.in-Full.ensures.output o.0 o.1
