use Rattle.std.proofs.Common.{◌∙◌, ap}
use Rattle.dshash_parts.specs.declared.histories.PartitionName.{PartitionName}
use Rattle.uses_chunks.proofs.many.take_rest.Goals as goal

pub take_left-requires-clause-here : goal.take_left-requires-clause-here
take_left-requires-clause-here g c =
    let parts = c.loop-partition.invariant.parts in
    ap (λ (n : PartitionName). n.region) (c.in-Some.ensures.last c.args.r.now parts.0 parts.1).name

pub take_left-requires-clause-keys : goal.take_left-requires-clause-keys
take_left-requires-clause-keys g c =
    let parts = c.loop-partition.invariant.parts in
    ap (λ (n : PartitionName). n.key_words) (c.in-Some.ensures.last c.args.r.now parts.0 parts.1).name ∙ parts.2

pub loop-partition-preserved : goal.loop-partition-preserved
loop-partition-preserved g c =
    let parts = c.loop-partition.invariant.parts in
    record { own = c.take_left.ensures.own; parts = (parts.0, c.in-Some.ensures.parts c.args.r.now parts.0 parts.1, parts.2) }
