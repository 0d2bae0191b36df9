use Rattle.std.proofs.Common.{◌≡◌, ◌<◌, ◌∙◌, ap, arith, length, length-drop, sym}
use Rattle.std.proofs.lemmas.Bool.{eqb-true}
use Rattle.std.proofs.lemmas.Bool.Decides.{nat_tests}
use Rattle.csv.specs.Records.{fields_of}
use Rattle.table_form.proofs.Rows.{Turns, reads-end, reads-init, reads-more, reads-some}
use Rattle.table_form.proofs.row.read_row.Goals as goal

pub fields-init : goal.fields-init
fields-init c = record {
  reads = reads-init c.args.text.now (fields_of c.clear.new.self) c.clear.ensures.fields;
  partial = c.clear.ensures.partial;
  within = omega arith;
}

pub fields-preserved : goal.fields-preserved
fields-preserved c =
    let more = c.split_field.result.1.now in
    let next = c.without_first-next.result.now in
    let turn : Turns c.fields.left.now c.split_field.result.0.now more next (fields_of c.fields.row) (fields_of c.read_field.new.row) =
    record { text_is = c.split_field.ensures.field; more_is = c.split_field.ensures.rest; next_is = c.without_first-next.ensures; put = c.in_ok-read_field.ensures.field } in
    let size = ap length c.without_first-next.ensures ∙ length-drop 1 more in
    record {
      reads = reads-more c.args.text.now c.fields.left.now c.split_field.result.0.now more next (fields_of c.fields.row) (fields_of c.read_field.new.row) turn
          (sym c.begins_with.ensures ∙ c.if-not-begins_with.false) c.fields.invariant.reads;
      partial = c.in_ok-read_field.ensures.partial;
      within = omega (arith, size, c.split_field.ensures.within, c.fields.invariant.within);
    }

pub fields-smaller : goal.fields-smaller
fields-smaller c =
    let more = c.split_field.result.1.now in
    let size = ap length c.without_first-next.ensures ∙ length-drop 1 more in
    let some : 0 < length c.fields.left.now = grind (arith, nat_tests, c.is_empty.ensures, c.fields-test.true) in
    omega (arith, size, c.split_field.ensures.within, some)

pub returns-then-not-begins_with-clause-fields : goal.returns-then-not-begins_with-clause-fields
returns-then-not-begins_with-clause-fields c row rest is =
    let more = c.split_field.result.1.now in
    let next = c.without_first-next.result.now in
    let turn : Turns c.fields.left.now c.split_field.result.0.now more next (fields_of c.fields.row) (fields_of c.read_field.new.row) =
    record { text_is = c.split_field.ensures.field; more_is = c.split_field.ensures.rest; next_is = c.without_first-next.ensures; put = c.in_ok-read_field.ensures.field } in
    (reads-end c.args.text.now c.fields.left.now c.split_field.result.0.now more next (fields_of c.fields.row) (fields_of c.read_field.new.row) turn
    (sym c.begins_with.ensures ∙ c.if-not-begins_with.true) c.fields.invariant.reads row rest is).0

pub returns-then-not-begins_with-clause-rest : goal.returns-then-not-begins_with-clause-rest
returns-then-not-begins_with-clause-rest c row rest is =
    let more = c.split_field.result.1.now in
    let next = c.without_first-next.result.now in
    let turn : Turns c.fields.left.now c.split_field.result.0.now more next (fields_of c.fields.row) (fields_of c.read_field.new.row) =
    record { text_is = c.split_field.ensures.field; more_is = c.split_field.ensures.rest; next_is = c.without_first-next.ensures; put = c.in_ok-read_field.ensures.field } in
    (reads-end c.args.text.now c.fields.left.now c.split_field.result.0.now more next (fields_of c.fields.row) (fields_of c.read_field.new.row) turn
    (sym c.begins_with.ensures ∙ c.if-not-begins_with.true) c.fields.invariant.reads row rest is).1

pub returns-then-not-begins_with-clause-shorter : goal.returns-then-not-begins_with-clause-shorter
returns-then-not-begins_with-clause-shorter c some =
    let more = c.split_field.result.1.now in
    let size = ap length c.without_first-next.ensures ∙ length-drop 1 more in
    let here : 0 < length c.fields.left.now = grind (arith, nat_tests, c.is_empty.ensures, c.fields-test.true) in
    omega (arith, size, c.split_field.ensures.within, c.fields.invariant.within, here)

pub returns-clause-fields : goal.returns-clause-fields
returns-clause-fields c row rest is =
    let none : length c.fields.left.now ≡ 0 = eqb-true _ 0 (sym c.is_empty.ensures ∙ c.fields-test.false) in
    absurd (reads-some c.args.text.now c.fields.left.now (fields_of c.fields.row) none c.fields.invariant.reads row rest is)

pub returns-clause-rest : goal.returns-clause-rest
returns-clause-rest c row rest is =
    let none : length c.fields.left.now ≡ 0 = eqb-true _ 0 (sym c.is_empty.ensures ∙ c.fields-test.false) in
    absurd (reads-some c.args.text.now c.fields.left.now (fields_of c.fields.row) none c.fields.invariant.reads row rest is)

pub returns-clause-shorter : goal.returns-clause-shorter
returns-clause-shorter c some =
    let none : length c.fields.left.now ≡ 0 = eqb-true _ 0 (sym c.is_empty.ensures ∙ c.fields-test.false) in
    omega (arith, none, some)
