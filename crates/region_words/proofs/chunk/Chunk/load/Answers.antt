use Rattle.std.proofs.Common.{arith, ◌+◌}
use Rattle.region_words.proofs.Chunks.{row_has}
use Rattle.region_words.proofs.chunk.Chunk.load.Goals as goal

pub plus-place-requires-clause-fits : goal.plus-place-requires-clause-fits
plus-place-requires-clause-fits c =
    let small = c.is_small.ensures (c.args.self.now.at + c.args.n) (row_has _ _ _ c.args.n c.args.self.now.just c.requires.inside) in omega (arith, small)
