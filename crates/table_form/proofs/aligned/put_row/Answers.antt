use Rattle.std.proofs.Common.{◌≡◌, ◌∙◌, ◌∷◌, ◌++◌, [], List, ℕ, ap, append-nil, arith, get_or, length, sym}
use Rattle.std.specs.List.{join_by, range_with_len}
use Rattle.std.specs.Prelude.{nat_lt}
use Rattle.csv.specs.Records.{fields_of}
use Rattle.table_form.specs.Aligned.{aligned_cell, gap, shown}
use Rattle.table_form.proofs.Joins.{place-more, two-after}
use Rattle.table_form.proofs.aligned.put_row.Goals as goal

pub fields-init : goal.fields-init
fields-init c = sym (append-nil c.args.out.now.items)

pub fields-preserved : goal.fields-preserved
fields-preserved c =
    let at = c.fields.at in
    let size = get_or c.args.sizes.now at 0 in
    let cell = c.as_bytes.ensures.value ∙ c.in_ok-put_cell.ensures ∙ ap shown c.field_at.ensures in
    place-more (λ k. aligned_cell (nat_lt k c.args.keys) (get_or c.args.sizes.now k 0) (shown (get_or (fields_of c.args.row.now) k []))) gap at c.args.out.now.items c.fields.out.items c.put_lead.new.out.items
    c.put_aligned.new.out.items c.in_ok-put_lead.ensures (c.in_ok-put_aligned.ensures ∙ ap (λ (t : List ℕ). c.put_lead.new.out.items ++ aligned_cell (nat_lt at c.args.keys) size t) cell) c.fields.invariant

pub returns : goal.returns
returns c =
    let sizes = c.args.sizes.now in
    let f = λ (k : ℕ). aligned_cell (nat_lt k c.args.keys) (get_or sizes k 0) (shown (get_or (fields_of c.args.row.now) k [])) in
    let same : c.fields.at ≡ length sizes = omega (arith, c.fields-test.false, c.fields.auto.at-end) in
    two-after c.args.out.now.items (join_by f gap (range_with_len 0 (length sizes))) (10 ∷ []) c.fields.out.items c.push.new.self.items
    (c.fields.invariant ∙ ap (λ (n : ℕ). c.args.out.now.items ++ join_by f gap (range_with_len 0 n)) same) c.in_ok-push.ensures.items
