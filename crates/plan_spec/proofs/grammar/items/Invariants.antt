use Rattle.std.proofs.Common.{◌≡◌, Some, map, take, vec_len}
use Rattle.plan_spec.specs.Given.{entry_of}
use Rattle.plan_spec.specs.Grammar.{all_some, item_in}
use Rattle.plan_spec.proofs.grammar.items.Given as goal

abbrev pub invariant-parts : goal.invariant-parts
invariant-parts l = record {
  read : all_some (map (item_in (map entry_of l.places)) (map (λ s. s.now) (take l.part-index l.part-items))) ≡ Some l.items.items;
  count : vec_len l.items ≡ l.part-index;
}
