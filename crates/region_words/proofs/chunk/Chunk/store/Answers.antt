use Rattle.std.proofs.Common.{arith, ◌+◌}
use Rattle.region_words.proofs.Chunks.{row_has, just_after}
use Rattle.region_words.proofs.chunk.Chunk.store.Goals as goal

pub plus-place-requires-clause-fits : goal.plus-place-requires-clause-fits
plus-place-requires-clause-fits c =
    let small = c.is_small.ensures (c.args.self.now.at + c.args.n) (row_has _ _ _ c.args.n c.args.self.now.just c.requires.inside) in omega (arith, small)

pub invariant_of-self : goal.invariant_of-self
invariant_of-self c = record { valid = c.args.self.now.valid; whole = c.args.self.now.whole; just = just_after _ _ _ c.args.value _ _ c.args.self.now.just (rw (c.word.ensures, c.plus-place.ensures) (row_has _ _ _ c.args.n c.args.self.now.just c.requires.inside)) c.store.ensures }
