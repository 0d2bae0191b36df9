use Rattle.std.proofs.Common.{◌≡◌, ◌<◌, ◌++◌, [], drop, get_or, length, map}
use Rattle.std.specs.Prelude.{filter_map}
use Rattle.plan_spec.proofs.plan.column_name.Given as goal

abbrev pub invariant-items : goal.invariant-items
invariant-items l = record {
  within : l.left < length (filter_map (λ i. i.column) (drop l.item-index l.items) ++ map (λ f. f.column) l.filters);
  same : get_or (filter_map (λ i. i.column) (drop l.item-index l.items) ++ map (λ f. f.column) l.filters) l.left []
      ≡ get_or (filter_map (λ i. i.column) l.items ++ map (λ f. f.column) l.filters) l.place [];
}
