use Rattle.std.proofs.Common.{length, arith, ap}
use Rattle.key_index.proofs.Lists.{key-there}
use Rattle.key_index.proofs.list.KeyList.get.Goals as goal

pub span-start-requires : goal.span-start-requires
span-start-requires c = (key-there _ _ _ c.self.invariant (rw (← c.self.view_is) at c.requires)).there

pub slice_bounds-result-count : goal.slice_bounds-result-count
slice_bounds-result-count c =
    let f = key-there _ _ _ c.self.invariant (rw (← c.self.view_is) at c.requires) in
    let b = c.span-start.ensures in
    rw (b.start, b.end) f.up

pub slice_bounds-result-start : goal.slice_bounds-result-start
slice_bounds-result-start c =
    let f = key-there _ _ _ c.self.invariant (rw (← c.self.view_is) at c.requires) in
    let b = c.span-start.ensures in
    omega (arith, b.start, b.end, f.up, f.within, ap length c.as_slice.ensures.value)

pub slice_bounds-result-end : goal.slice_bounds-result-end
slice_bounds-result-end c =
    let f = key-there _ _ _ c.self.invariant (rw (← c.self.view_is) at c.requires) in
    let b = c.span-start.ensures in
    omega (arith, b.start, b.end, f.up, f.within, ap length c.as_slice.ensures.value)

pub returns : goal.returns
returns c =
    let f = key-there _ _ _ c.self.invariant (rw (← c.self.view_is) at c.requires) in
    let b = c.span-start.ensures in
    rw (← c.self.view_is, c.as_slice.ensures.value, b.start, b.end) f.value
