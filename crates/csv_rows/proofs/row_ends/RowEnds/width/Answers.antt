use Rattle.std.proofs.Common.{◌≡◌, ◌<◌, ◌+◌, ◌-◌, ◌*◌, ◌^◌, ◌∙◌, get_or, length, sym, refl, arith, rules}
use Rattle.std.proofs.lemmas.List.{get_or_default}
use Rattle.csv_rows.proofs.Ends.{end-even, end-later, ends-length, start-even}
use Rattle.csv_rows.proofs.row_ends.RowEnds.width.Goals as goal

pub returns-then-row-even : goal.returns-then-row-even
returns-then-row-even c =
    let row = c.args.row in
    let start = start-even c.self.inside.width c.self.inside.even c.self.inside.later.items row (omega (arith, c.if-row-even.true)) (rw (← c.self.view_is) at c.requires.row) in
    let end = end-even c.self.inside.width c.self.inside.even c.self.inside.later.items row c.if-row-even.true in
    let width : (row + 1) * c.self.inside.width ≡ row * c.self.inside.width + c.self.inside.width = grind arith in
    rw (← c.self.view_is, start, end, width) (omega arith)

pub index-requires : goal.index-requires
index-requires c =
    let size = ends-length c.self.inside.width c.self.inside.even c.self.inside.later.items in
    let lt = rw (← c.self.view_is, size) at c.requires.row in
    omega (arith, lt, c.if-row-even.false)

-- the end that was looked up is the record's
the-end : (c : goal.After-start) → get_or c.args.self.now c.args.row 0 ≡ c.index.result.now
the-end c =
    let size = ends-length c.self.inside.width c.self.inside.even c.self.inside.later.items in
    let lt = rw (← c.self.view_is, size) at c.requires.row in
    let there : c.args.row - c.self.inside.even < length c.self.inside.later.items = omega (arith, lt, c.if-row-even.false) in
    let at = get_or_default c.self.inside.later.items (c.args.row - c.self.inside.even) c.index.result.now 0 there in
    rw (← c.self.view_is) (end-later _ _ _ c.args.row 0 c.if-row-even.false ∙ sym (c.index.ensures ∙ at))

pub overflow_cast-result : goal.overflow_cast-result
overflow_cast-result c =
    let up = rw (the-end c, ← c.start.ensures) at c.requires.up in
    let small : c.index.result.now < 2 ^ 32 = search rules in
    omega (arith, up, small)

pub overflow_sub-result : goal.overflow_sub-result
overflow_sub-result c = rw (the-end c, ← c.start.ensures) at c.requires.up

pub returns : goal.returns
returns c = rw (the-end c, ← c.start.ensures) refl
