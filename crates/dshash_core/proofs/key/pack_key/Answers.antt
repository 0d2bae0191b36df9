use Rattle.std.proofs.Common.{arith}
use Rattle.dshash_core.proofs.Keys.{packs, is_packed, all_bytes}
use Rattle.dshash_core.proofs.key.pack_key.Goals as goal

pub returns-clause-key : goal.returns-clause-key
returns-clause-key c = packs _ _ c.loop-i.invariant.long c.loop-i.invariant.head (λ k h. c.loop-i.invariant.words k (omega arith))

pub returns-clause-packed : goal.returns-clause-packed
returns-clause-packed c =
    is_packed _ c.args.bytes.now (all_bytes _ c.type_inv.bytes) c.if-bytes-gt-MOST_PACKED_BYTES.false
    (packs _ _ c.loop-i.invariant.long c.loop-i.invariant.head (λ k h. c.loop-i.invariant.words k (omega arith)))
