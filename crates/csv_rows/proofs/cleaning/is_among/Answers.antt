use Rattle.std.proofs.Common.{◌+◌, ◌∙◌, sym, arith}
use Rattle.std.proofs.lemmas.List.{length-drop, take_rest}
use Rattle.csv_rows.proofs.Among.{first-part, longer, only-part}
use Rattle.csv_rows.proofs.cleaning.is_among.Goals as goal

pub returns-then-field-texts : goal.returns-then-field-texts
returns-then-field-texts c = sym (longer c.args.field.now c.args.texts.now c.if-field-texts.true)

pub returns-then-eq : goal.returns-then-eq
returns-then-eq c =
    let first = first-part c.args.field.now c.texts.rest.now c.in-Some.count (c.in-Some.ensures) in
    sym (rw (sym c.if-eq.ensures) at first) ∙ c.texts.invariant.same

pub overflow_add-rest : goal.overflow_add-rest
overflow_add-rest c = omega (arith, c.in-Some.ensures.0.high, c.texts.invariant.within)

pub texts-preserved : goal.texts-preserved
texts-preserved c =
    let first = first-part c.args.field.now c.texts.rest.now c.in-Some.count (c.in-Some.ensures) in
    let size = length-drop (c.in-Some.count + 1) c.texts.rest.now in
    rw (take_rest c.texts.rest.now (c.in-Some.count + 1)) (record {
      same = sym (rw (sym c.if-eq.ensures) at first) ∙ c.texts.invariant.same;
      within = omega (arith, size, c.texts.invariant.within);
    })

pub returns : goal.returns
returns c =
    let only = only-part c.args.field.now c.texts.rest.now c.in_default.ensures in
    c.eq-2.ensures ∙ (sym only ∙ c.texts.invariant.same)
