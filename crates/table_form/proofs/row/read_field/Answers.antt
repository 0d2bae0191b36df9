use Rattle.std.proofs.Common.{◌∙◌, ap, false}
use Rattle.csv.specs.Records.{fields_of, partial_of}
use Rattle.table_form.specs.Reading.{once}
use Rattle.table_form.proofs.FieldTexts.{once-escaped, quoted-text}
use Rattle.table_form.proofs.Records.{field-put}
use Rattle.table_form.proofs.row.read_field.Goals as goal

pub returns-in_ok-push_field-clause-field : goal.returns-in_ok-push_field-clause-field
returns-in_ok-push_field-clause-field c field is =
    field-put (fields_of c.push_field.new.self) (fields_of c.args.row.now) (partial_of c.args.row.now) c.as_slice.result.now field c.in_ok-push_field.ensures.fields c.requires
    (c.as_slice.ensures.value ∙ c.in_ok-put_once.ensures ∙ ap (once false) (c.between_quotes.ensures ∙ quoted-text field c.args.text.now is) ∙ once-escaped field)
