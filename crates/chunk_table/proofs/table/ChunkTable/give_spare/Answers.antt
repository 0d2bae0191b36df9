use Rattle.dsa_area.specs.Sizes.{chunk_size}
use Rattle.chunk_table.specs.Tables.{item_of}
use Rattle.dshash_parts.proofs.Spares.{only_bytes}
use Rattle.chunk_table.proofs.table.ChunkTable.give_spare.Goals as goal

pub returns-clause-gave : goal.returns-clause-gave
returns-clause-gave g c = let bytes = chunk_size (item_of c.args.self.now) in c.give_back.ensures.gave bytes (only_bytes c.args.r.now bytes c.args.spare c.requires.spare)
