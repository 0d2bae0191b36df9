use Rattle.std.proofs.Common.{◌≡◌, [], List}
use Rattle.agg_table.specs.Calls.{Group, HasPut}
use Rattle.agg_table.specs.Shown.{IsSeat, number_at, use_of}
use Rattle.uses_table.proofs.groups.put_four.Given as goal

abbrev pub invariant-loop-number : goal.invariant-loop-number
invariant-loop-number g l = record {
  seat : IsSeat l.part l.seat;
  number : number_at l.seat ≡ 0;
  has : (put : List Group) × HasPut put (use_of l.seat) put [];
}
