use Rattle.std.proofs.Common.{◌∙◌, ap, ℕ, ℤ, List, Option, length, take}
use Rattle.par_model.specs.declared.plan.Item.{Item}
use Rattle.par_model.specs.declared.state.AggState.{AggState}
use Rattle.partial_agg.specs.Groups.{added}
use Rattle.partial_agg.specs.Values.{values_state}
use Rattle.partial_agg.proofs.Blocks.{row_added}
use Rattle.partial_agg.proofs.map.GroupMap.add_other.Goals as goal

pub returns-in-Ok-add_state-clause-added : goal.returns-in-Ok-add_state-clause-added
returns-in-Ok-add_state-clause-added g c =
    let groups = c.args.self.now in
    let key = c.args.buffer.now.key in
    let plan = c.args.plan.now in
    let values = c.read_kept.new.buffer.values in
    c.in-Ok-add_state.ensures.ok
    ∙ ap (λ (key : List ℕ). added groups key c.one_row-state.result) (c.bytes.ensures.bytes ∙ c.read_kept.ensures.key)
    ∙ ap (λ (state : AggState). added groups key state) c.one_row-state.ensures
    ∙ ap (λ (items : List Item). added groups key (values_state (take (length items) values))) c.items.ensures.items
    ∙ ap (λ (vs : List (Option ℤ)). added groups key (values_state vs)) c.in-Ok.ensures.values
    ∙ row_added plan c.args.width (g.F.RowFields.fields c.args.row.now) key groups c.requires.kept c.in-Ok.ensures.readable
