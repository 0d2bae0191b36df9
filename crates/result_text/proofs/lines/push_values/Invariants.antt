use Rattle.std.proofs.Common.{◌≡◌, ◌≤◌, ◌++◌, All, map}
use Rattle.std.specs.Iterator.Adapters.{zip_first, zip_second}
use Rattle.std.specs.List.{concat, zip}
use Rattle.std.specs.Slice.Iter.{iter_rest}
use Rattle.par_model.specs.Table.{value_text, values_text}
use Rattle.par_model.specs.declared.plan.TheConstants.{MOST_PLACES}
use Rattle.result_text.specs.Lines.{followed}
use Rattle.result_text.specs.Printable.{IsSmallSlot}
use Rattle.result_text.proofs.lines.push_values.Given as goal

-- what the text has, and then the values that are left
abbrev pub invariant-loop-item : goal.invariant-loop-item
invariant-loop-item l = record {
  text : l.text.items ++ concat (map followed (map (λ p. value_text p.0.kind p.0.places l.state.rows p.1) (zip (iter_rest (zip_first l.item-iterator)) (iter_rest (zip_second l.item-iterator))))) ≡ l.fn.text.items ++ concat (map followed (values_text l.bound l.state));
  small : All IsSmallSlot (iter_rest (zip_second l.item-iterator));
  places : All (λ item. item.places ≤ MOST_PLACES) (iter_rest (zip_first l.item-iterator));
}
