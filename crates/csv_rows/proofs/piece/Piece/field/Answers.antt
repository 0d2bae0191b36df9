use Rattle.std.proofs.Common.{◌<◌, ◌^◌, length, arith, rules, sym, ap}
use Rattle.csv_rows.proofs.Groups.{field-there, record-there}
use Rattle.csv_rows.proofs.piece.Piece.field.Goals as goal

pub start-first-requires : goal.start-first-requires
start-first-requires c = (record-there _ _ _ _ _ c.self.invariant (rw (← c.self.view_is) at c.requires.row)).there

pub overflow_add-first : goal.overflow_add-first
overflow_add-first c =
    let f = field-there _ _ _ _ _ _ c.self.invariant (rw (← c.self.view_is) at c.requires.row) (rw (← c.self.view_is) at c.requires.place) in
    let small : length c.self.inside.ends.items < 2 ^ 64 = search rules in
    rw c.start-first.ensures (omega (arith, f.there, small))

pub span-start-requires : goal.span-start-requires
span-start-requires c =
    let f = field-there _ _ _ _ _ _ c.self.invariant (rw (← c.self.view_is) at c.requires.row) (rw (← c.self.view_is) at c.requires.place) in
    rw c.start-first.ensures f.there

pub slice_bounds-result-count : goal.slice_bounds-result-count
slice_bounds-result-count c =
    let f = field-there _ _ _ _ _ _ c.self.invariant (rw (← c.self.view_is) at c.requires.row) (rw (← c.self.view_is) at c.requires.place) in
    let b = c.span-start.ensures in
    rw (b.start, b.end, c.start-first.ensures) f.up

pub slice_bounds-result-start : goal.slice_bounds-result-start
slice_bounds-result-start c =
    let f = rw (← c.start-first.ensures) at (field-there _ _ _ _ _ _ c.self.invariant (rw (← c.self.view_is) at c.requires.row) (rw (← c.self.view_is) at c.requires.place)) in
    let b = c.span-start.ensures in
    omega (arith, b.start, b.end, f.up, f.within, ap length c.as_slice.ensures.value)

pub slice_bounds-result-end : goal.slice_bounds-result-end
slice_bounds-result-end c =
    let f = rw (← c.start-first.ensures) at (field-there _ _ _ _ _ _ c.self.invariant (rw (← c.self.view_is) at c.requires.row) (rw (← c.self.view_is) at c.requires.place)) in
    let b = c.span-start.ensures in
    omega (arith, b.start, b.end, f.up, f.within, ap length c.as_slice.ensures.value)

pub returns : goal.returns
returns c =
    let f = field-there _ _ _ _ _ _ c.self.invariant (rw (← c.self.view_is) at c.requires.row) (rw (← c.self.view_is) at c.requires.place) in
    let b = c.span-start.ensures in
    rw (← c.self.view_is, c.as_slice.ensures.value, b.start, b.end, c.start-first.ensures) (sym f.value)
