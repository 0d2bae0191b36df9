use Rattle.std.proofs.Common.{List, [], ◌∷◌, length, slice_get, sym, ap, ◌∙◌, arith, length-append}
use Rattle.area_spares.specs.declared.spares.Spares.{Spares}
use Rattle.area_spares.proofs.Each.{IsNew, are_new, one_more}
use Rattle.area_spares.proofs.classes.ClassSpares.new.Goals as goal

pub loop-class-preserved : goal.loop-class-preserved
loop-class-preserved c =
    let i = c.loop-class.invariant in
    let before = c.loop-class.classes.items in
    let y = c.in_ok-spares.spares in
    let e = c.push_reserved.ensures.items in
    let made : IsNew (length before) y = record { own = c.in_ok-spares.ensures.spares; class = c.in_ok-spares.ensures.class ∙ sym i.count; none = c.in_ok-spares.ensures.none } in
    record {
      count = omega (arith, i.count, ap length e, length-append before (y ∷ []));
      room = omega (arith, i.room, c.push_reserved.ensures.capacity);
      each = λ j x h. one_more before y i.each made j x (ap (λ (xs : List Spares). slice_get xs j) (sym e) ∙ h);
    }

pub returns-clause-spares : goal.returns-clause-spares
returns-clause-spares c = are_new (record { classes = c.loop-class.classes }) (omega (arith, c.loop-class.invariant.count, c.loop-class-test.false, c.loop-class.auto.class-end)) c.loop-class.invariant.each
