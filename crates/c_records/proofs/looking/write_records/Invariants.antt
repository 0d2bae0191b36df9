use Rattle.std.proofs.Common.{◌≡◌, map, take}
use Rattle.c_records.proofs.looking.write_records.Given as goal

abbrev pub invariant-loop-at : goal.invariant-loop-at
invariant-loop-at l = take l.at l.records ≡ map (λ e. e.state) (take l.at l.entries)
