use Rattle.std.proofs.Common.{◌≡◌}
use Rattle.dsa_area.specs.Shown.{Belongs}
use Rattle.uses_chunks.proofs.many.take_left.Given as goal

abbrev pub invariant-loop-turn : goal.invariant-loop-turn
invariant-loop-turn g l = record {
  own : Belongs l.area l.apass;
  here : l.partition.region ≡ l.r;
  keys : l.partition.key_words ≡ 1;
}
