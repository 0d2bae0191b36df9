use Rattle.std.proofs.Common.{◌≡◌, All, drop, map, take}
use Rattle.line_runs.specs.Order.{IsNumbered, place_of}
use Rattle.line_runs.proofs.order.number_all.Given as goal

-- each line so far has its number and its place, and the others are as they were
abbrev pub invariant-loop-line : goal.invariant-loop-line
invariant-loop-line l = record {
  places : map place_of (take l.line-index l.lines) ≡ map place_of (take l.line-index l.fn.lines);
  rest : drop l.line-index l.lines ≡ drop l.line-index l.fn.lines;
  numbers : All (IsNumbered l.shared l.runs) (take l.line-index l.lines);
}
