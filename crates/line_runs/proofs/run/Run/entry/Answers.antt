use Rattle.std.proofs.Common.{◌≡◌, ◌<◌, ◌-◌, ◌∙◌, ap, arith, drop, get_or, length, sym, take}
use Rattle.std.proofs.lemmas.List.{get_or_past}
use Rattle.csv.specs.Records.{prev}
use Rattle.line_runs.specs.Entries.{entry_in, no_entry}
use Rattle.line_runs.proofs.Entries.{entry-there}
use Rattle.line_runs.proofs.run.Run.entry.Goals as goal

-- no line is there
pub returns-then-at-len : goal.returns-then-at-len
returns-then-at-len c = sym (get_or_past c.args.self.now c.args.at no_entry (omega (arith, c.len.ensures, c.if-at-len.true)))

-- where the line lies
pub span-start-requires : goal.span-start-requires
span-start-requires c =
    let lt : c.args.at < length c.args.self.now = omega (arith, c.len.ensures, c.if-at-len.false) in
    (entry-there c.self.inside.bytes.items c.self.inside.ends.items c.args.self.now c.args.at c.self.view_is c.self.invariant lt).there

pub slice_bounds-result-count : goal.slice_bounds-result-count
slice_bounds-result-count c =
    let lt : c.args.at < length c.args.self.now = omega (arith, c.len.ensures, c.if-at-len.false) in
    let f = entry-there c.self.inside.bytes.items c.self.inside.ends.items c.args.self.now c.args.at c.self.view_is c.self.invariant lt in
    let b = c.span-start.ensures in
    omega (arith, b.start, b.end, f.up)

pub slice_bounds-result-start : goal.slice_bounds-result-start
slice_bounds-result-start c =
    let lt : c.args.at < length c.args.self.now = omega (arith, c.len.ensures, c.if-at-len.false) in
    let f = entry-there c.self.inside.bytes.items c.self.inside.ends.items c.args.self.now c.args.at c.self.view_is c.self.invariant lt in
    let b = c.span-start.ensures in
    omega (arith, b.start, b.end, f.up, f.within, ap length c.as_slice.ensures.value)

pub slice_bounds-result-end-2 : goal.slice_bounds-result-end-2
slice_bounds-result-end-2 c =
    let lt : c.args.at < length c.args.self.now = omega (arith, c.len.ensures, c.if-at-len.false) in
    let f = entry-there c.self.inside.bytes.items c.self.inside.ends.items c.args.self.now c.args.at c.self.view_is c.self.invariant lt in
    let b = c.span-start.ensures in
    omega (arith, b.start, b.end, f.up, f.within, ap length c.as_slice.ensures.value)

pub returns : goal.returns
returns c =
    let ends = c.self.inside.ends.items in
    let lt : c.args.at < length c.args.self.now = omega (arith, c.len.ensures, c.if-at-len.false) in
    let f = entry-there c.self.inside.bytes.items c.self.inside.ends.items c.args.self.now c.args.at c.self.view_is c.self.invariant lt in
    let b = c.span-start.ensures in
    let cut : take (c.span-start.result.1 - c.span-start.result.0) (drop c.span-start.result.0 c.as_slice.result.now) ≡ take (get_or ends c.args.at 0 - prev 0 ends c.args.at) (drop (prev 0 ends c.args.at) c.self.inside.bytes.items) =
    λ i. take (b.end i - b.start i) (drop (b.start i) (c.as_slice.ensures.value i)) in
    ap entry_in cut ∙ sym f.value
