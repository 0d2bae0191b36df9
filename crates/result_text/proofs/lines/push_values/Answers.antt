use Rattle.std.proofs.Common.{◌≤◌}
use Rattle.std.proofs.lemmas.List.Elements.{All-rest}
use Rattle.std.proofs.lemmas.Slice.Zip.{Zip-more, either_empty_from_Zip}
use Rattle.par_model.specs.declared.plan.TheConstants.{MOST_PLACES}
use Rattle.result_text.specs.Printable.{IsSmallSlot}
use Rattle.result_text.proofs.LineTexts.{value-more, values-end}
use Rattle.result_text.proofs.lines.push_values.Goals as goal

pub loop-item-preserved : goal.loop-item-preserved
loop-item-preserved c =
    let steps = Zip-more c.loop-item.item-iterator c.next.new.self c.next.result (c.in-Some.item, c.in-Some.slot) c.in-Some.is c.next.ensures.steps in
    record {
      text = value-more _ _ _ _ _ _ _ _ _ _ steps.0 steps.1 c.in_ok-push_value.ensures c.loop-item.invariant.text;
      small = All-rest IsSmallSlot _ _ _ steps.1 c.loop-item.invariant.small;
      places = All-rest (λ item. item.places ≤ MOST_PLACES) _ _ _ steps.0 c.loop-item.invariant.places;
    }

pub returns : goal.returns
returns c = values-end _ _ _ _ _ (either_empty_from_Zip c.loop-item.item-iterator c.next.new.self c.next.result c.in-None.is c.next.ensures.steps) c.loop-item.invariant.text
