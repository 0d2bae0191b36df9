use Rattle.std.proofs.Common.{◌≡◌, false}
use Rattle.gather_run.specs.Looks.{Takes}
use Rattle.gather_run.proofs.messages.take_tuples.Given as goal

abbrev pub invariant-loop : goal.invariant-loop
invariant-loop l = record {
  region : l.tuples.region ≡ l.initial.tuples.region;
  ring : l.tuples.end.ring ≡ l.initial.tuples.end.ring;
  stays : l.tuples.end.gone ≡ false;
  takes : Takes l.initial.tuples.end l.tuples.end l.initial.groups l.groups;
}
