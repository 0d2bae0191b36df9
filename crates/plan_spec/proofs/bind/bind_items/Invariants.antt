use Rattle.std.proofs.Common.{◌≡◌, ◌≤◌, ◌-◌, ◌<◌, drop, length, map, take}
use Rattle.par_model.specs.declared.plan.ItemKind.TheVariants as kind
use Rattle.par_model.specs.declared.plan.TheConstants.{MOST_PLACES}
use Rattle.std.specs.Prelude.{All, IsTrue, None, filter_map, replicate}
use Rattle.csv_rows.specs.Records.{record_at}
use Rattle.par_model.specs.Columns.{reads_column}
use Rattle.par_model.specs.Named.{bound_item}
use Rattle.par_model.specs.PlanLayout.{unused}
use Rattle.plan_spec.specs.Binding.{missing_from}
use Rattle.plan_spec.proofs.bind.bind_items.Given as goal

abbrev pub invariant-items : goal.invariant-items
invariant-items l = record {
  items : take l.at l.bound ≡ map (bound_item (record_at l.rows 0)) (take l.at l.items);
  size : length l.bound ≡ 8;
  no_column : All (λ item. item.kind ≡ kind.Rows → (item.column ≡ 0) × (item.places ≡ 0)) l.bound;
  below : All (λ item. IsTrue (reads_column item.kind) → item.column < length (record_at l.rows 0)) l.bound;
  places : All (λ item. item.places ≤ MOST_PLACES) l.bound;
  few : l.named ≤ l.at;
  rest : drop l.at l.bound ≡ replicate (8 - l.at) unused;
  named : l.named ≡ length (filter_map (λ i. i.column) (take l.at l.items));
  present : missing_from (record_at l.rows 0) (filter_map (λ i. i.column) (take l.at l.items)) ≡ None;
}
