use Rattle.std.proofs.Common.{◌≡◌, All, drop, take}
use Rattle.partial_agg.specs.Rows.{IsAccepted, header_width}
use Rattle.part_run.specs.Carrying.{spread}
use Rattle.part_run.proofs.piece.spread_store.Given as goal

-- the lists have the rows so far, and none of these is refused
abbrev pub invariant-loop-before : goal.invariant-loop-before
invariant-loop-before l = record {
  lists : l.lists ≡ spread l.plan l.fn.lists (take l.before (drop 1 l.rows));
  accepted : All (IsAccepted l.plan (header_width l.rows)) (take l.before (drop 1 l.rows));
}
