use Rattle.std.proofs.Common.{◌≡◌, ◌++◌, All, take}
use Rattle.csv_rows.specs.Records.{record_at}
use Rattle.par_model.specs.Key.{encoded}
use Rattle.state_range.specs.Ranges.{IsShort}
use Rattle.state_range.proofs.bounds.push_fields.Given as goal

abbrev pub invariant-loop-at : goal.invariant-loop-at
invariant-loop-at l = record { put : l.key.items ≡ l.fn.key.items ++ encoded (take l.at (record_at l.store 0)); short : All IsShort (take l.at (record_at l.store 0)) }
