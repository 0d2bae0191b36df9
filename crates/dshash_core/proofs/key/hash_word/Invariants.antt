use Rattle.std.proofs.Common.{◌≡◌, ◌/◌, ◌^◌, ◌<◌, ◌≤◌, ◌-◌}
use Rattle.dshash_core.specs.Key.{fnv_word}
use Rattle.dshash_core.proofs.Hashes.{over}
use Rattle.dshash_core.proofs.key.hash_word.Given as goal

-- the bytes so far are hashed, and what is left of the word has as many bytes as are left
abbrev pub invariant-loop-rest : goal.invariant-loop-rest
invariant-loop-rest l = record {
  hashed : fnv_word l.fn.hash l.word ≡ over (8 - l.left) l.left l.hashed l.word;
  rest : l.rest ≡ l.word / 256 ^ (8 - l.left);
  most : l.left ≤ 8;
  low : l.rest < 256 ^ l.left;
}

abbrev pub decreases-loop-rest : goal.decreases-loop-rest
decreases-loop-rest l = l.left
