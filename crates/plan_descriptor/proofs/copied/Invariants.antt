use Rattle.std.proofs.Common.{◌≡◌, length, take}
use Rattle.word_map.specs.WordMap.{values_from}
use Rattle.plan_descriptor.proofs.copied.Given as goal

abbrev pub invariant-words : goal.invariant-words
invariant-words l = record {
  size : length l.words ≡ 32;
  front : take l.k l.words ≡ values_from l.initial.frozen.words l.at l.k;
  same : l.frozen ≡ l.initial.frozen;
}
