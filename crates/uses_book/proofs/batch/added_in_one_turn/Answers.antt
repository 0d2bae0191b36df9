use Rattle.std.proofs.Common.{◌∙◌}
use Rattle.lock_book.proofs.Uses.{only}
use Rattle.uses_book.proofs.batch.added_in_one_turn.Goals as goal

pub add_in_one_turn-requires-clause-own : goal.add_in_one_turn-requires-clause-own
add_in_one_turn-requires-clause-own g c = let s = c.in_ok-shelf.ensures in s.passes.each 0 c.in-Some.pass (only _ _ _ c.in-Some.ensures.items (s.passes.count ∙ s.counts.1))
