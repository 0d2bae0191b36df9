use Rattle.std.proofs.Common.{◌≡◌, ◌+◌, ◌*◌, ◌/◌, ◌<◌, ℕ, length, get_or}
use Rattle.rel_pointer.specs.Bytes.{byte_of}
use Rattle.dshash_core.proofs.key.unpack_key.Given as goal

-- the bytes of the words so far stand in the buffer
abbrev pub invariant-loop-i : goal.invariant-loop-i
invariant-loop-i l = record {
  long : length l.out ≡ 248;
  bytes : (k : ℕ) → k < 8 * l.i → k < 248 → get_or l.out k 0 ≡ byte_of (get_or l.key (1 + k / 8) 0) k;
}
