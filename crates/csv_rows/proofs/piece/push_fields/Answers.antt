use Rattle.std.proofs.Common.{rules, ◌≡◌, ◌<◌, ◌∷◌, ◌++◌, [], Some, None, length, take, refl}
use Rattle.std.proofs.lemmas.List.{take_more}
use Rattle.csv.specs.Records.{cut_from, field_at, fields_of, text_of}
use Rattle.csv.proofs.RecordFacts.{field-get, field-there}
use Rattle.std.proofs.Common.{append_assoc}
use Rattle.csv_rows.proofs.Stands.{front-kept}
use Rattle.csv_rows.proofs.piece.push_fields.Goals.{in-Some+in_ok-push_field, in_default}
use Rattle.csv_rows.proofs.piece.push_fields.Goals as goal

pub fields-init : goal.fields-init
fields-init c =
    let e = c.in_ok-count.ensures in
    let text : c.extend_from_slice.new.self.items ≡ c.args.bytes.now.items ++ text_of c.args.row.now = rw (← c.as_slice.ensures) c.in_ok-extend_from_slice.ensures.items in
    let within = rw (c.as_slice-2.ensures.value, text) at e.within in
    let fields = rw (c.as_slice-2.ensures.value, text) at e.fields in
    rw (c.truncate.ensures.items, text) (front-kept c.args.ends.now.items c.push_ends.new.ends.items c.args.bytes.now.items (text_of c.args.row.now) c.in_ok-count.end _ c.requires.covers e.covers within fields)

pub fields-preserved : goal.fields-preserved
fields-preserved c =
    let inv = c.fields.invariant in
    let lt : c.fields.i < length (fields_of c.args.row.now) = search rules in
    elim c.match-get.branch [
      | in-Some+in_ok-push_field w ↦
          let at : field_at (fields_of c.args.row.now) c.fields.i ≡ Some w.in-Some.field.now = search rules in
          let g = field-get (fields_of c.args.row.now) c.fields.i _ at in
          let e = w.in_ok-push_field.ensures in
          rw (w.bytes-is, w.ends-is) (e.covers, rw (e.fields, inv.1, take_more (fields_of c.args.row.now) c.fields.i [] lt, g, append_assoc (cut_from 0 c.args.ends.now.items c.args.bytes.now.items) (take c.fields.i (fields_of c.args.row.now)) (w.in-Some.field.now ∷ [])) refl)
      | in_default w ↦
          let at : field_at (fields_of c.args.row.now) c.fields.i ≡ None = search rules in
          absurd (field-there (fields_of c.args.row.now) c.fields.i lt at)
    ]
