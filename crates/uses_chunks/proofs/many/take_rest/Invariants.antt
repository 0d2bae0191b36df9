use Rattle.std.proofs.Common.{◌≡◌}
use Rattle.dsa_area.specs.Shown.{Belongs}
use Rattle.chunk_table.specs.Tables.{key_words_of}
use Rattle.chunk_table.specs.Ending.{IsOf, left_of}
use Rattle.uses_chunks.proofs.many.take_rest.Given as goal

abbrev pub invariant-loop-partition : goal.invariant-loop-partition
invariant-loop-partition g l = record {
  own : Belongs l.area l.apass;
  parts : (t : _) × IsOf l.r t l.closed × (key_words_of t ≡ 1);
}

abbrev pub decreases-loop-partition : goal.decreases-loop-partition
decreases-loop-partition g l = left_of l.closed
