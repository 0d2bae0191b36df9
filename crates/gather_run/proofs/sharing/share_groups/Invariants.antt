use Rattle.agg_table.specs.Shown.{Grew, IsSeat, use_of}
use Rattle.gather_run.proofs.Shares.{IsSharing}
use Rattle.gather_run.proofs.sharing.share_groups.Given as goal

abbrev pub invariant-loop : goal.invariant-loop
invariant-loop g l = record {
  can_next : (goal.iterator-loop g).can_next l.iterator';
  finite : (goal.iterator-loop g).is_finite l.iterator';
  seat : IsSeat l.part l.seat;
  grew : Grew l.initial.seat l.seat;
  sharing : IsSharing l.initial.kept l.kept (use_of l.initial.seat) (use_of l.seat) l.initial.groups l.groups;
}
