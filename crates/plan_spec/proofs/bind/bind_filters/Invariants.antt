use Rattle.std.proofs.Common.{◌≡◌, ◌<◌, ◌≤◌, length, map, take}
use Rattle.std.specs.Prelude.{All, None}
use Rattle.csv_rows.specs.Records.{record_at}
use Rattle.par_model.specs.Named.{bound_filter}
use Rattle.par_model.specs.declared.plan.TheConstants.{MOST_PLACES}
use Rattle.plan_spec.specs.Binding.{missing_from}
use Rattle.plan_spec.proofs.bind.bind_filters.Given as goal

abbrev pub invariant-filters : goal.invariant-filters
invariant-filters l = record {
  filters : take l.at l.bound ≡ map (bound_filter (record_at l.rows 0)) (take l.at l.filters);
  size : length l.bound ≡ 8;
  below : All (λ filter. filter.column < length (record_at l.rows 0)) (take l.at l.bound);
  places : All (λ filter. filter.places ≤ MOST_PLACES) l.bound;
  present : missing_from (record_at l.rows 0) (take l.at (map (λ f. f.column) l.filters)) ≡ None;
}
