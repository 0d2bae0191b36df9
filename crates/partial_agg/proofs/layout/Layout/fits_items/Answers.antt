use Rattle.std.proofs.Common.{◌≡◌, ◌∙◌, List, Option, ap, arith, false, slice_get, sym}
use Rattle.std.proofs.lemmas.List.{take_all}
use Rattle.key_index.proofs.Index.{more_steps}
use Rattle.par_model.specs.Aggregate.{no_values}
use Rattle.par_model.specs.declared.plan.Item.{Item}
use Rattle.partial_agg.specs.Items.{is_item_unreadable, item_value, items_state}
use Rattle.partial_agg.specs.Lanes.{lanes_of, slots_in}
use Rattle.partial_agg.specs.Values.{slot_of_value}
use Rattle.partial_agg.specs.declared.layout.SlotPart.{SlotPart}
use Rattle.partial_agg.proofs.Fitting.{all_readable, length-items, slot_at-items}
use Rattle.partial_agg.proofs.Lanes.{told_more}
use Rattle.partial_agg.proofs.layout.Layout.fits_items.Goals as goal

pub loop-at-preserved : goal.loop-at-preserved
loop-at-preserved c = λ row h.
    let items = c.args.items.now in
    let slots = (items_state row items).slots in
    let so_far = c.loop-at.invariant row h in
    let told = c.tells_item.ensures c.if-not-tells_item.false row h in (
      told_more c.args.self.now.parts (lanes_of c.args.self.now slots) slots c.loop-at.at _ no_values (omega arith) (omega (arith, length-items row items c.requires)) so_far.0
          (told.0 ∙ ap (λ (item : Option Item). slot_of_value (item_value row item)) c.item_at.ensures ∙ slot_at-items row items c.loop-at.at),
      more_steps {P = λ k. is_item_unreadable row (slice_get items k) ≡ false} c.loop-at.at so_far.1 (ap (is_item_unreadable row) (sym c.item_at.ensures) ∙ told.1),
    )

pub returns : goal.returns
returns c = λ t row h.
    let items = c.args.items.now in
    let slots = (items_state row items).slots in
    let all = c.loop-at.invariant row h in (
      sym (ap (λ (parts : List SlotPart). slots_in parts (lanes_of c.args.self.now slots)) (take_all c.loop-at.at c.args.self.now.parts (omega arith)))
          ∙ all.0
          ∙ take_all c.loop-at.at slots (omega (arith, length-items row items c.requires)),
      all_readable row items 0 (λ at lt. all.1 at (omega arith)),
    )
