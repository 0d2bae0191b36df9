use Rattle.std.proofs.Common.{◌<◌, ◌≤◌, ◌∙◌, ◌∷◌, ◌++◌, [], List, ℕ, ap, append-nil, arith, length, sym}
use Rattle.std.specs.List.{join_by}
use Rattle.csv.specs.Records.{fields_of}
use Rattle.table_form.specs.Tsv.{tsv_field}
use Rattle.table_form.proofs.Joins.{piece-end, piece-more, two-after}
use Rattle.table_form.proofs.tsv.put_row.Goals as goal

pub fields-init : goal.fields-init
fields-init c = sym (append-nil c.args.out.now.items)

pub fields-preserved : goal.fields-preserved
fields-preserved c =
    let fields = fields_of c.args.row.now in
    let at = c.fields.at in
    let lt : at < length fields = omega (arith, c.fields-test.true, c.len-at-end.ensures) in
    piece-more tsv_field (9 ∷ []) fields at [] c.args.out.now.items c.fields.out.items c.put_lead.new.out.items c.put_field.new.out.items lt c.in_ok-put_lead.ensures
    (c.in_ok-put_field.ensures ∙ ap (λ (f : List ℕ). c.put_lead.new.out.items ++ tsv_field f) c.field_at.ensures) c.fields.invariant

pub returns : goal.returns
returns c =
    let fields = fields_of c.args.row.now in
    let le : length fields ≤ c.fields.at = omega (arith, c.fields-test.false, c.len-at-end.ensures) in
    two-after c.args.out.now.items (join_by tsv_field (9 ∷ []) fields) (10 ∷ []) c.fields.out.items c.push.new.self.items
    (piece-end tsv_field (9 ∷ []) fields c.fields.at c.args.out.now.items c.fields.out.items le c.fields.invariant) c.in_ok-push.ensures.items
