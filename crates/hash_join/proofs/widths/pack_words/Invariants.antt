use Rattle.std.proofs.Common.{◌≡◌, ◌+◌, ◌<◌, ℕ, length, get_or}
use Rattle.rel_pointer.specs.Bytes.{packed}
use Rattle.hash_join.proofs.widths.pack_words.Given as goal

abbrev pub invariant-loop-i : goal.invariant-loop-i
invariant-loop-i l = record {
  long : length l.key ≡ 32;
  head : get_or l.key 0 0 ≡ length l.field;
  words : (k : ℕ) → k < l.i → get_or l.key (1 + k) 0 ≡ packed l.field k;
}
