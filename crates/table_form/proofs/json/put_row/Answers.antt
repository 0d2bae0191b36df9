use Rattle.std.proofs.Common.{◌≡◌, ◌∙◌, ◌∷◌, ◌++◌, [], ℕ, ap, append-nil, append_assoc, arith, length, sym}
use Rattle.std.specs.List.{join_by, range_with_len}
use Rattle.csv.specs.Records.{fields_of}
use Rattle.table_form.specs.Json.{json_member}
use Rattle.table_form.proofs.Joins.{place-more, two-after}
use Rattle.table_form.proofs.json.put_row.Goals as goal

pub fields-init : goal.fields-init
fields-init c = c.in_ok-push.ensures.items ∙ sym (append-nil (c.args.out.now.items ++ 123 ∷ []))

pub fields-preserved : goal.fields-preserved
fields-preserved c =
    place-more (json_member c.args.keys (fields_of c.args.names.now) (fields_of c.args.row.now)) (44 ∷ []) c.fields.at (c.args.out.now.items ++ 123 ∷ []) c.fields.out.items c.put_lead.new.out.items c.put_member.new.out.items
    c.in_ok-put_lead.ensures c.in_ok-put_member.ensures c.fields.invariant

pub returns : goal.returns
returns c =
    let f = json_member c.args.keys (fields_of c.args.names.now) (fields_of c.args.row.now) in
    let all = join_by f (44 ∷ []) (range_with_len 0 (length (fields_of c.args.names.now))) in
    let start = c.args.out.now.items ++ 123 ∷ [] in
    let same : c.fields.at ≡ length (fields_of c.args.names.now) = omega (arith, c.fields-test.false, c.fields.auto.at-end, c.len-at-end.ensures) in
    two-after start all (125 ∷ 10 ∷ []) c.fields.out.items c.extend_from_slice.new.self.items
    (c.fields.invariant ∙ ap (λ (n : ℕ). start ++ join_by f (44 ∷ []) (range_with_len 0 n)) same) c.in_ok-extend_from_slice.ensures.items
    ∙ append_assoc c.args.out.now.items (123 ∷ []) (all ++ 125 ∷ 10 ∷ [])
