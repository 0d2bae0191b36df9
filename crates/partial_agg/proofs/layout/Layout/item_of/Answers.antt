use Rattle.std.proofs.Common.{◌≡◌, ◌∙◌, ℕ, Option, ap, arith, false, length-take, slice_get, sym, take}
use Rattle.std.proofs.lemmas.List.{get_or-take}
use Rattle.std.proofs.lemmas.List.Elements.{All-get_or}
use Rattle.par_model.specs.declared.plan.Item.{Item}
use Rattle.partial_agg.specs.Items.{is_item_unreadable, item_value, items_state}
use Rattle.partial_agg.specs.Values.{slot_of_value}
use Rattle.partial_agg.proofs.Fitting.{slot_at-items}
use Rattle.partial_agg.proofs.Lanes.{get-lanes_of}
use Rattle.partial_agg.proofs.layout.Layout.item_of.Goals as goal

pub returns-then-lane-self-clause-value : goal.returns-then-lane-self-clause-value
returns-then-lane-self-clause-value c = λ row.
    ap (λ (item : Option Item). slot_of_value (item_value row item)) c.item_at.ensures
    ∙ slot_at-items row c.args.items.now _
    ∙ sym (get-lanes_of c.args.self.now (items_state row c.args.items.now).slots c.args.lane _ (omega arith) (omega arith))

pub returns-then-lane-self-clause-readable : goal.returns-then-lane-self-clause-readable
returns-then-lane-self-clause-readable c = λ row h.
    let items = c.args.items.now in
    let width = c.args.self.now.width in
    let kept = c.args.self.now.kept in
    let IsReadable : ℕ → Type 0 = λ at. is_item_unreadable row (slice_get items at) ≡ false in
    ap (is_item_unreadable row) c.item_at.ensures
    ∙ ap (λ (at : ℕ). is_item_unreadable row (slice_get items at)) (sym (get_or-take width kept c.args.lane _ (omega arith)))
    ∙ All-get_or IsReadable (take width kept) c.args.lane _ (omega (arith, length-take width kept)) h
