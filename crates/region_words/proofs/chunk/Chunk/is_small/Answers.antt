use Rattle.std.proofs.Common.{◌/◌, arith}
use Rattle.region_words.proofs.Chunks.{row_low, row_few}
use Rattle.region_words.proofs.chunk.Chunk.is_small.Goals as goal

pub returns-clause-few : goal.returns-clause-few
returns-clause-few c = omega (arith, row_few c.args.self.now.part.words c.args.self.now.at (c.args.self.now.bytes / 8) c.args.self.now.just c.is_small.ensures, c.args.self.now.whole)

pub returns-clause-low : goal.returns-clause-low
returns-clause-low c = λ some. row_low c.args.self.now.part.words c.args.self.now.at (c.args.self.now.bytes / 8) c.args.self.now.just c.is_small.ensures (omega (arith, c.args.self.now.whole, some))
