use Rattle.std.proofs.Common.{arith, ◌∙◌}
use Rattle.word_map.proofs.Maps.{within_true}
use Rattle.shm_toc.proofs.Stores.{stored_has, few_words}
use Rattle.shm_toc.proofs.Tables.{created}
use Rattle.shm_toc.proofs.growing.Growing.create.Goals as goal

pub overflow_mul-total : goal.overflow_mul-total
overflow_mul-total c = let few = few_words c.args.part.words c.args.words c.requires.owns c.is_small.ensures in omega arith

pub store-requires-2-clause-owns : goal.store-requires-2-clause-owns
store-requires-2-clause-owns c = stored_has _ _ _ _ 1 c.store.ensures (c.requires.owns 1 ∙ within_true 0 c.args.words 1 (omega arith) (omega (arith, c.requires.size)))

pub store-requires-3-clause-owns : goal.store-requires-3-clause-owns
store-requires-3-clause-owns c =
    stored_has _ _ _ _ 2 c.store-2.ensures (stored_has _ _ _ _ 2 c.store.ensures (c.requires.owns 2 ∙ within_true 0 c.args.words 2 (omega arith) (omega (arith, c.requires.size))))

pub store-requires-4-clause-owns : goal.store-requires-4-clause-owns
store-requires-4-clause-owns c =
    stored_has _ _ _ _ 3 c.store-3.ensures
    (stored_has _ _ _ _ 3 c.store-2.ensures (stored_has _ _ _ _ 3 c.store.ensures (c.requires.owns 3 ∙ within_true 0 c.args.words 3 (omega arith) (omega (arith, c.requires.size)))))

pub invariant_of-result : goal.invariant_of-result
invariant_of-result c =
    (created _ _ _ _ _ c.args.words c.args.magic c.store.ensures c.store-2.ensures c.store-3.ensures c.store-4.ensures c.requires.owns c.requires.size.0 c.requires.size.1
    (few_words c.args.part.words c.args.words c.requires.owns c.is_small.ensures)).0

pub returns-clause-empty : goal.returns-clause-empty
returns-clause-empty c =
    (created _ _ _ _ _ c.args.words c.args.magic c.store.ensures c.store-2.ensures c.store-3.ensures c.store-4.ensures c.requires.owns c.requires.size.0 c.requires.size.1
    (few_words c.args.part.words c.args.words c.requires.owns c.is_small.ensures)).1

pub returns-clause-others : goal.returns-clause-others
returns-clause-others c =
    (created _ _ _ _ _ c.args.words c.args.magic c.store.ensures c.store-2.ensures c.store-3.ensures c.store-4.ensures c.requires.owns c.requires.size.0 c.requires.size.1
    (few_words c.args.part.words c.args.words c.requires.owns c.is_small.ensures)).2

pub returns-clause-table : goal.returns-clause-table
returns-clause-table c =
    (created _ _ _ _ _ c.args.words c.args.magic c.store.ensures c.store-2.ensures c.store-3.ensures c.store-4.ensures c.requires.owns c.requires.size.0 c.requires.size.1
    (few_words c.args.part.words c.args.words c.requires.owns c.is_small.ensures)).0.table
