use Rattle.std.proofs.Common.{◌*◌, arith}
use Rattle.region_words.proofs.Chunks.{row_low, row_few}
use Rattle.region_words.proofs.chunk.Run.is_small.Goals as goal

pub returns-clause-few : goal.returns-clause-few
returns-clause-few c = row_few c.args.self.now.words.words c.args.self.now.at (512 * c.args.self.now.pages) c.args.self.now.just c.is_small.ensures

pub returns-clause-low : goal.returns-clause-low
returns-clause-low c = λ some. row_low c.args.self.now.words.words c.args.self.now.at (512 * c.args.self.now.pages) c.args.self.now.just c.is_small.ensures (omega (arith, some))
