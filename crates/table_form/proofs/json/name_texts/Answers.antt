use Rattle.std.proofs.Common.{◌≡◌, ◌<◌, ◌≤◌, ◌∙◌, ◌∷◌, ◌++◌, [], List, ℕ, ap, arith, length, map, take_all}
use Rattle.csv.specs.Records.{fields_of, partial_of}
use Rattle.table_form.specs.Json.{json_name, json_string}
use Rattle.table_form.proofs.Records.{field-put, made-more}
use Rattle.table_form.proofs.json.name_texts.Goals as goal

pub loop-at-init : goal.loop-at-init
loop-at-init c = record { names = c.new-names.ensures.fields; partial = c.new-names.ensures.partial }

pub loop-at-preserved : goal.loop-at-preserved
loop-at-preserved c =
    let fields = fields_of c.args.header.now in
    let at = c.loop-at.at in
    let lt : at < length fields = omega (arith, c.loop-at-test.true, c.len-at-end.ensures) in
    let name : c.push.new.self.items ≡ json_name c.field_at.result.now =
    c.in_ok-push.ensures.items ∙ ap (λ (t : List ℕ). t ++ 58 ∷ []) (c.in_ok-put_string.ensures ∙ ap (λ (t : List ℕ). t ++ json_string c.field_at.result.now) c.clear.ensures.items) in
    record {
      names = made-more json_name (fields_of c.push_field.new.self) (fields_of c.loop-at.names) fields at lt
          (field-put (fields_of c.push_field.new.self) (fields_of c.loop-at.names) (partial_of c.loop-at.names) c.as_slice.result.now _ c.in_ok-push_field.ensures.fields c.loop-at.invariant.partial
          (c.as_slice.ensures.value ∙ name ∙ ap json_name c.field_at.ensures)) c.loop-at.invariant.names;
      partial = c.in_ok-push_field.ensures.partial;
    }

pub returns : goal.returns
returns c =
    let le : length (fields_of c.args.header.now) ≤ c.loop-at.at = omega (arith, c.loop-at-test.false, c.len-at-end.ensures) in
    c.loop-at.invariant.names ∙ ap (map json_name) (take_all c.loop-at.at (fields_of c.args.header.now) le)
