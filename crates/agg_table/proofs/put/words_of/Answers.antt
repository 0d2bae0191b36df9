use Rattle.dshash_core.proofs.Keys.{all_bytes}
use Rattle.agg_table.proofs.put.words_of.Goals as goal

pub returns-clause-bytes : goal.returns-clause-bytes
returns-clause-bytes c = all_bytes c.args.bytes.now (λ k. c.type_inv.bytes k)
