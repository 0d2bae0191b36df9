use Rattle.lock_book.proofs.Uses.{is_here}
use Rattle.lock_book.proofs.shelf.Shelf.announce.Goals as goal

pub lend-seat-requires-clause-here : goal.lend-seat-requires-clause-here
lend-seat-requires-clause-here g c κs within = is_here c.args.self.now c.args.pass.now c.requires.own
