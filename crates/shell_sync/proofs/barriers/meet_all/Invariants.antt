use Rattle.std.proofs.Common.{◌≡◌, drop, take}
use Rattle.std.specs.List.{AllZip}
use Rattle.par_barrier.specs.Shown.{history_of}
use Rattle.shell_sync.specs.Meetings.{Meets}
use Rattle.shell_sync.proofs.barriers.meet_all.Given as goal

abbrev pub invariant-others : goal.invariant-others
invariant-others l = record {
  pass : Meets l.fn.barrier (history_of l.fn.pass) l.fn.pass l.pass;
  met : AllZip (Meets l.fn.barrier (history_of l.fn.pass)) (take l.other-index l.fn.others) (take l.other-index l.others);
  rest : drop l.other-index l.others ≡ drop l.other-index l.fn.others;
}
