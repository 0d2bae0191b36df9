use Rattle.std.proofs.Common.{◌≡◌, ◌+◌, drop, false}
use Rattle.table_order.specs.Lines.{size_to}
use Rattle.table_order.proofs.line.size_to.Given as goal

abbrev pub invariant-loop-at : goal.invariant-loop-at
invariant-loop-at l = size_to l.or_comma false l.text ≡ l.at + size_to l.or_comma l.quoted (drop l.at l.text)
