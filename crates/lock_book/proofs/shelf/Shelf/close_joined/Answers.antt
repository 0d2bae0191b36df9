use Rattle.std.proofs.Common.{◌∙◌, ap, arith, length}
use Rattle.lock_book.proofs.Closing.{map_length}
use Rattle.lock_book.proofs.Endings.{ended_of}
use Rattle.lock_book.proofs.shelf.Shelf.close_joined.Goals as goal

pub finish-requires-clause-own : goal.finish-requires-clause-own
finish-requires-clause-own g c κs within = let j = c.requires.joined in (j.1.table, c.args.joined.free)

pub finish-requires-clause-view : goal.finish-requires-clause-view
finish-requires-clause-view g c κs within = let j = c.requires.joined in (c.requires.all, c.args.joined.idle, j.1.opens)

pub finish-requires-clause-all : goal.finish-requires-clause-all
finish-requires-clause-all g c κs within = let j = c.requires.joined in ap length j.1.owns ∙ (map_length _ j.0 ∙ omega (arith, j.1.count, c.requires.all))

pub returns-clause-ended : goal.returns-clause-ended
returns-clause-ended g c = λ passes j.
    let f = c.finish.ensures in
    ended_of c.args.self passes c.finish.result c.args.joined.whole.me.0 f.all_seen f.seen j.owns (omega (arith, j.count, c.requires.all)) (λ n i p at. j.begins n i p at)
