use Rattle.std.proofs.Common.{◌≡◌, ◌-◌, ◌<◌, drop, length, map, string_bytes, take}
use Rattle.std.specs.Prelude.{All, None, replicate}
use Rattle.csv_rows.specs.Records.{record_at}
use Rattle.par_model.specs.Named.{bound_column}
use Rattle.plan_spec.specs.Binding.{missing_from}
use Rattle.plan_spec.proofs.bind.bind_groups.Given as goal

abbrev pub invariant-names : goal.invariant-names
invariant-names l = record {
  columns : take l.at l.columns ≡ map (bound_column (record_at l.rows 0)) (take l.at (map string_bytes l.names));
  size : length l.columns ≡ 8;
  unused : drop l.at l.columns ≡ replicate (8 - l.at) 0;
  below : All (λ column. column < length (record_at l.rows 0)) (take l.at l.columns);
  present : missing_from (record_at l.rows 0) (take l.at (map string_bytes l.names)) ≡ None;
}
