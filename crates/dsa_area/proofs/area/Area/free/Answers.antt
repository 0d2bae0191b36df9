use Rattle.dsa_area.proofs.Chunks.{no_large}
use Rattle.dsa_area.proofs.Steps.{whole_back}
use Rattle.dsa_area.proofs.area.Area.free.Goals as goal

pub returns-then-chunk-gt-LARGEST_SIZE-clause-stranger : goal.returns-then-chunk-gt-LARGEST_SIZE-clause-stranger
returns-then-chunk-gt-LARGEST_SIZE-clause-stranger g c = whole_back c.args.self.now c.args.pass.now c.take_pages_back.new.pass c.args.chunk.at c.args.chunk.bytes c.take_pages_back.result c.if-chunk-gt-LARGEST_SIZE.true (no_large c.args.chunk.bytes c.if-chunk-gt-LARGEST_SIZE.true) c.take_pages_back.ensures.stranger
