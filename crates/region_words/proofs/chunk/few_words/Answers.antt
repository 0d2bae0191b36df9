use Rattle.region_words.proofs.Chunks.{row_few}
use Rattle.region_words.proofs.chunk.few_words.Goals as goal

pub returns : goal.returns
returns c = row_few c.args.part.now.words c.args.at c.args.words c.requires c.is_small.ensures
