use Rattle.std.proofs.Common.{◌∙◌, ap, length}
use Rattle.lock_book.proofs.Closing.{map_length}
use Rattle.lock_book.proofs.Endings.{ended_of}
use Rattle.lock_book.proofs.Uses.{is_here}
use Rattle.lock_book.proofs.shelf.Shelf.close.Goals as goal

pub gather-whole-requires-clause-passes : goal.gather-whole-requires-clause-passes
gather-whole-requires-clause-passes g c κs within = λ k p at. let b = c.requires.all.each k p at in (b.table, c.requires.all.numbers k p at, b.opens, is_here c.args.self p b)

pub finish-requires-clause-all : goal.finish-requires-clause-all
finish-requires-clause-all g c κs within = ap length c.gather-whole.ensures.owns ∙ (map_length _ c.args.passes.items ∙ c.requires.all.count)

pub returns-clause-ended : goal.returns-clause-ended
returns-clause-ended g c =
    let w = c.gather-whole.ensures in
    let f = c.finish.ensures in
    ended_of c.args.self c.args.passes.items c.finish.result c.gather-whole.result.me.0 f.all_seen f.seen w.owns c.requires.all.count (λ n i p at. w.seen n p at i)
