use Rattle.std.proofs.Common.{map, take}
use Rattle.par_model.specs.Table.{table_text}
use Rattle.answer_text.specs.Held.{Puts}
use Rattle.join_query.specs.Writable.{beside}
use Rattle.join_query.proofs.writing.put_pairs.Given as goal

-- the records so far
abbrev pub invariant-pairs : goal.invariant-pairs
invariant-pairs g l = Puts g.O.Sink.taken g.O.Sink.faults l.fn.out l.out l.fn.held l.held (table_text (map (beside l.left l.right) (take l.at l.pairs)))
