use Rattle.std.proofs.Common.{◌+◌, ◌*◌}
use Rattle.span_pools.proofs.Bits.{set_marked}
use Rattle.span_pools.proofs.find.find_free.Goals as goal

pub find_in_word-found-requires-clause-has : goal.find_in_word-found-requires-clause-has
find_in_word-found-requires-clause-has c = λ b low set. rw c.loop-n.invariant.records (c.requires.has (64 * c.loop-n.n + b) (set_marked c.args.layout c.args.marks.now.words c.loop-n.n b c.load-word.result (rw c.loop-n.invariant.marks at c.load-word.ensures.found) low set))
