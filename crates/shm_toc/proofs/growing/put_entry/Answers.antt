use Rattle.std.proofs.Common.{◌+◌, ◌*◌, arith}
use Rattle.shm_toc.proofs.Stores.{stored_has}
use Rattle.shm_toc.proofs.Tables.{put_words}
use Rattle.shm_toc.proofs.growing.put_entry.Goals as goal

pub store-requires-2-clause-owns : goal.store-requires-2-clause-owns
store-requires-2-clause-owns c = stored_has _ _ _ _ (5 + 2 * c.args.count) c.store.ensures (c.requires.owns (5 + 2 * c.args.count) (omega arith))

pub store-requires-3-clause-owns : goal.store-requires-3-clause-owns
store-requires-3-clause-owns c = stored_has _ _ _ _ 3 c.store-2.ensures (stored_has _ _ _ _ 3 c.store.ensures (c.requires.owns 3 (omega arith)))

pub returns-clause-words : goal.returns-clause-words
returns-clause-words c = put_words _ _ _ _ c.args.count c.args.key c.args.at _ c.store.ensures c.word.ensures c.store-2.ensures c.store-3.ensures
