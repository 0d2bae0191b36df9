use Rattle.shm_toc.proofs.Tables.{table_has, table_few}
use Rattle.shm_toc.proofs.frozen.FrozenToc.lookup.Goals as goal

pub find-requires-clause-owns : goal.find-requires-clause-owns
find-requires-clause-owns c = λ k low. table_has c.self.inside.frozen _ c.load-count.result k c.self.invariant c.load-count.ensures.found c.load-count.ensures.same low

pub find-requires-clause-small : goal.find-requires-clause-small
find-requires-clause-small c = table_few c.self.inside.frozen _ c.self.invariant c.load-count.ensures.found
