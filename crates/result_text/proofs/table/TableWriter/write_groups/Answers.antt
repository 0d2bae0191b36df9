use Rattle.std.proofs.Common.{◌≡◌, ◌∙◌, ◌++◌, OnOk, ℕ, List, map, length, subst, sym}
use Rattle.std.proofs.lemmas.Bool.{eqb-true}
use Rattle.std.proofs.lemmas.List.{length-map}
use Rattle.result_text.specs.GroupOrder.{line_of}
use Rattle.result_text.specs.Written.{written}
use Rattle.result_text.proofs.Tables.{shown-none}
use Rattle.result_text.proofs.table.TableWriter.write_groups.Goals as goal

pub returns-then-is_empty : goal.returns-then-is_empty
returns-then-is_empty c =
    let plan = c.args.bound.now in
    let lines = map (line_of (length plan.groups) c.args.groups.now) c.args.refs.now in
    let no_columns : length plan.groups ≡ 0 = sym c.group_count.ensures.count ∙ c.if-group_count-eq0.true in
    let no_lines : length lines ≡ 0 = length-map c.args.refs.now (line_of (length plan.groups) c.args.groups.now) ∙ eqb-true (length c.args.refs.now) 0 (sym c.if-is_empty.ensures) in
    record { text = subst (λ (t : List ℕ). OnOk c.write_group.result (written c.write_group.new.self.writer ≡ written c.args.self.now.writer ++ t)) (shown-none plan c.empty.result lines no_columns no_lines c.empty.ensures.zeros) c.write_group.ensures.text }
