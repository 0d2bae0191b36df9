use Rattle.std.proofs.Common.{◌∙◌, sym, ap, subst, ◌∷◌}
use Rattle.atomic_table.specs.Table.{rest}
use Rattle.lock_book.proofs.Moves.{held_slot}
use Rattle.lock_book.proofs.steps.serve.Goals as goal

pub slot_mut-requires : goal.slot_mut-requires
slot_mut-requires g c = let h = c.requires.held in (c.requires.own, (h.0, h.1 ∙ ap (λ m. (c.args.at, h.0) ∷ m) (sym (ap rest h.1))))

pub returns-clause-served : goal.returns-clause-served
returns-clause-served g c =
    let none = ap rest c.requires.held.1 in
    let x = c.slot_mut.result.now in
    let y = c.apply.new.self in
    let a = c.apply.ensures in
    let h = c.requires.held in
    let same = ap (held_slot h.0) (sym h.1 ∙ c.slot_mut.ensures.value) in
    let fits = subst (λ z. g.T.Kept.in_fits (g.T.Kept.name z.value) c.args.number c.args.input) same h.3 in
    (x, y, c.slot_mut.ensures.value ∙ ap (λ m. (c.args.at, x) ∷ m) none, ap (λ m. (c.args.at, y) ∷ m) none, a.legal _ fits, a.name, a.output, a.noted)
