use Rattle.std.proofs.Common.{◌∙◌, ◌++◌, List, ℕ, ap}
use Rattle.std.specs.Prelude.{nat_lt}
use Rattle.table_form.specs.Json.{json_field}
use Rattle.table_form.proofs.Joins.{two-after}
use Rattle.table_form.proofs.json.put_member.Goals as goal

pub returns : goal.returns
returns c =
    two-after c.args.out.now.items _ _ c.extend_from_slice.new.self.items c.put_field.new.out.items
    (c.in_ok-extend_from_slice.ensures.items ∙ ap (λ (t : List ℕ). c.args.out.now.items ++ t) c.field_at-name.ensures)
    (c.in_ok-put_field.ensures ∙ ap (λ (t : List ℕ). c.extend_from_slice.new.self.items ++ json_field (nat_lt c.args.at c.args.keys) t) c.field_at-field.ensures)
