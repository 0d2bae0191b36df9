use Rattle.std.proofs.Common.{arith, sym}
use Rattle.csv_rows.proofs.Gaps.{stands-apart}
use Rattle.csv_rows.proofs.piece.field_at.Goals as goal

pub slice_bounds-result-count : goal.slice_bounds-result-count
slice_bounds-result-count c =
    let f = stands-apart c.args.gap 0 c.args.ends.now.items c.args.bytes.now c.args.i c.requires.fields c.requires.place in
    let b = c.span-start.ensures in
    rw (b.start, b.end) f.up

pub slice_bounds-result-start : goal.slice_bounds-result-start
slice_bounds-result-start c =
    let f = stands-apart c.args.gap 0 c.args.ends.now.items c.args.bytes.now c.args.i c.requires.fields c.requires.place in
    let b = c.span-start.ensures in
    omega (arith, b.start, b.end, f.up, f.within)

pub slice_bounds-result-end : goal.slice_bounds-result-end
slice_bounds-result-end c =
    let f = stands-apart c.args.gap 0 c.args.ends.now.items c.args.bytes.now c.args.i c.requires.fields c.requires.place in
    let b = c.span-start.ensures in
    omega (arith, b.start, b.end, f.up, f.within)

pub returns : goal.returns
returns c =
    let f = stands-apart c.args.gap 0 c.args.ends.now.items c.args.bytes.now c.args.i c.requires.fields c.requires.place in
    let b = c.span-start.ensures in
    rw (b.start, b.end) (sym f.value)
