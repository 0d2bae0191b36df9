use Rattle.std.proofs.Common.{◌∙◌, sym, ap, ◌∷◌}
use Rattle.atomic_table.specs.Table.{rest}
use Rattle.lock_book.proofs.steps.begin.Goals as goal

pub slot_mut-requires : goal.slot_mut-requires
slot_mut-requires g c = let h = c.requires.held in (c.requires.own, (h.0, h.1 ∙ ap (λ m. (c.args.at, h.0) ∷ m) (sym (ap rest h.1))))

pub returns-clause-begun : goal.returns-clause-begun
returns-clause-begun g c =
    let none = ap rest c.requires.held.1 in
    let x = c.slot_mut.result.now in
    let y = c.begin.new.self in
    let a = c.begin.ensures in
    (x, y, c.slot_mut.ensures.value ∙ ap (λ m. (c.args.at, x) ∷ m) none, ap (λ m. (c.args.at, y) ∷ m) none, a.0, a.1)
