use Rattle.region_words.proofs.Same.{one_chunk}
use Rattle.region_words.proofs.laws.same_chunk.Goals as goal

pub returns : goal.returns
returns c = one_chunk
