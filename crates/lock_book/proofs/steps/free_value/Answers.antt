use Rattle.std.proofs.Common.{arith, ◌∙◌, ap}
use Rattle.atomic_table.specs.Table.{rest}
use Rattle.lock_book.proofs.Moves.{gives_back}
use Rattle.lock_book.proofs.steps.free_value.Goals as goal

pub store-requires : goal.store-requires
store-requires g c = let h = c.requires.held in
    (c.requires.own, omega (arith, c.lock_word.ensures, c.requires.word.0), gives_back _ _ _ _ _ _ _ _ _ c.args.at h.0 _ c.lock_word.ensures c.requires.holding h.1 c.requires.word.2 h.2)

pub returns-clause-added : goal.returns-clause-added
returns-clause-added g c = λ x e.
    let t = c.store.ensures.2 c.args.at x c.lock_word.ensures e in
    (t.0 ∙ ap rest e, t.1)
