use Rattle.std.proofs.Common.{◌≡◌, Some, map, take, vec_len}
use Rattle.plan_spec.specs.Given.{entry_of}
use Rattle.plan_spec.specs.Grammar.{all_some, filter_in}
use Rattle.plan_spec.proofs.grammar.filters.Given as goal

abbrev pub invariant-values : goal.invariant-values
invariant-values l = record {
  read : all_some (map (filter_in l.texts (map entry_of l.places)) (map (λ s. s.now) (take l.value-index l.values))) ≡ Some l.filters.items;
  count : vec_len l.filters ≡ l.value-index;
}
