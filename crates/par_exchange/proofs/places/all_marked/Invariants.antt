use Rattle.std.proofs.Common.{◌≡◌, replicate, true}
use Rattle.par_exchange.proofs.places.all_marked.Given as goal

abbrev pub invariant-loop : goal.invariant-loop
invariant-loop l = l.marks.items ≡ replicate l.counter true
