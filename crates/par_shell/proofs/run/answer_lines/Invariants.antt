use Rattle.std.proofs.Common.{◌≤◌, length}
use Rattle.par_shell.proofs.RunLaws.{SoFar}
use Rattle.par_shell.specs.Lines.{IsShell}
use Rattle.par_shell.proofs.run.answer_lines.Given as goal

abbrev pub invariant-lines : goal.invariant-lines
invariant-lines g l = record {
  so_far : SoFar l.fn.shell l.fn.script l.shell l.left (g.O.Sink.taken l.fn.out) (g.O.Sink.taken l.out) l.answers.items;
  shell : IsShell l.shell;
  faults : g.O.Sink.faults l.fn.out ≤ g.O.Sink.faults l.out;
}

abbrev pub decreases-lines : goal.decreases-lines
decreases-lines g l = length l.left
