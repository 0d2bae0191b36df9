use Rattle.std.proofs.Common.{◌<◌, ◌++◌, map, length, sym, ◌∙◌, arith}
use Rattle.dshash_core.specs.Hung.{chain_of}
use Rattle.dshash_core.specs.Cells.{entry_of}
use Rattle.dshash_core.proofs.Moves.{listed_more, listed_all}
use Rattle.dshash_core.proofs.entries.list_chains.Goals as goal

pub loop-bucket-preserved : goal.loop-bucket-preserved
loop-bucket-preserved g c =
    let i = c.loop-bucket.invariant in
    let step = entry_of g.O.CellObject.decoded in
    let l : c.loop-bucket.bucket < length c.args.buckets.now.chains = omega (arith, c.loop-bucket-test.true, c.len-bucket-end.ensures) in
    record {
      same = c.in_ok-list_chain.ensures.same ∙ i.same;
      entries = c.in_ok-list_chain.ensures.entries
          ∙ (λ t. i.entries t ++ map step (chain_of (i.same t) c.loop-bucket.bucket))
          ∙ sym (listed_more step c.args.buckets.now.chains c.loop-bucket.bucket l);
      long = c.list_chain.auto.buffer ∙ i.long;
    }

pub returns-clause-entries : goal.returns-clause-entries
returns-clause-entries g c =
    c.loop-bucket.invariant.entries
    ∙ listed_all (entry_of g.O.CellObject.decoded) c.args.buckets.now.chains c.loop-bucket.bucket (omega (arith, c.loop-bucket-test.false, c.loop-bucket.auto.bucket-end, c.len-bucket-end.ensures))
