use Rattle.std.proofs.Common.{map, string_bytes}
use Rattle.state_plan.proofs.Commands.{ArePut}
use Rattle.state_plan.proofs.words.push_filters.Given as goal

abbrev pub invariant-loop : goal.invariant-loop
invariant-loop l = ArePut l.texts l.rest (map string_bytes l.fn.command.items) (map string_bytes l.command.items) l.counter
