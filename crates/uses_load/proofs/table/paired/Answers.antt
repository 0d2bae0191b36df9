use Rattle.std.proofs.Common.{◌∙◌, length, sym, ap, arith}
use mathlib.Core.Option.{some-ne-none}
use lib.ListN.{get_elem?}
use Rattle.uses_load.proofs.Elements.{of_last, of_front, of_pushed, one_more}
use Rattle.uses_load.proofs.table.paired.Goals as goal

pub loop-pass-init : goal.loop-pass-init
loop-pass-init c = record {
  own = c.requires.own;
  area_own = c.requires.area_own;
  both = λ i p e. absurd (some-ne-none p (sym e ∙ ap (λ l. get_elem? l i) c.new-both.ensures.items));
  alike = c.requires.count;
  count = omega (arith, ap length c.new-both.ensures.items);
}

pub loop-pass-preserved : goal.loop-pass-preserved
loop-pass-preserved c =
    let i = c.loop-pass.invariant in
    let at = c.in-Some.ensures.items in
    let also = c.in-Some-pop.ensures.items in record {
      own = of_front _ _ _ _ at i.own;
      area_own = of_front _ _ _ _ also i.area_own;
      both = of_pushed _ _ _ _ c.in_ok-push.ensures.items i.both (of_last _ _ _ _ at i.own, of_last _ _ _ _ also i.area_own);
      alike = omega (arith, i.alike, one_more _ _ _ at, one_more _ _ _ also);
      count = omega (arith, i.count, one_more _ _ _ at, one_more _ _ _ c.in_ok-push.ensures.items);
    }
