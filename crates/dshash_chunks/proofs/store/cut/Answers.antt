use Rattle.std.proofs.Common.{ap}
use Rattle.dshash_chunks.proofs.Frames.{cut_held}
use Rattle.dshash_chunks.proofs.store.cut.Goals as goal

pub returns-clause-chunk : goal.returns-clause-chunk
returns-clause-chunk c = cut_held c.args.store.now.words c.args.name c.split_chunk.result c.requires.name.whole c.split_chunk.ensures.place.0 c.split_chunk.ensures.place.1 (ap (λ o. o.words) c.split_chunk.ensures.words)
