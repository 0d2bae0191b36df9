use Rattle.std.proofs.Common.{◌≡◌, ◌≤◌, Some, map, take}
use Rattle.std.specs.Prelude.{All}
use Rattle.par_model.specs.declared.plan.TheConstants.{MOST_PLACES}
use Rattle.plan_spec.specs.Given.{entry_of}
use Rattle.plan_spec.specs.Grammar.{all_some, entry_in}
use Rattle.plan_spec.proofs.grammar.places.Given as goal

abbrev pub invariant-parts : goal.invariant-parts
invariant-parts l = record {
  read : all_some (map entry_in (map (λ s. s.now) (take l.part-index l.part-items))) ≡ Some (map entry_of l.places.items);
  within : All (λ entry. entry.places ≤ MOST_PLACES) l.places.items;
}
