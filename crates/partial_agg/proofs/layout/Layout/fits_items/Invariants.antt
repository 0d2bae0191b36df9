use Rattle.std.proofs.Common.{◌≡◌, ◌<◌, ℕ, List, false, slice_get, take}
use Rattle.partial_agg.specs.Fitting.{AreLanesReadable}
use Rattle.partial_agg.specs.Items.{is_item_unreadable, items_state}
use Rattle.partial_agg.specs.Lanes.{lanes_of, slots_in}
use Rattle.partial_agg.proofs.layout.Layout.fits_items.Given as goal

abbrev pub invariant-loop-at : goal.invariant-loop-at
invariant-loop-at l = (row : List (List ℕ)) → AreLanesReadable l.self l.items row
    → (slots_in (take l.at l.self.parts) (lanes_of l.self (items_state row l.items).slots) ≡ take l.at (items_state row l.items).slots)
    × ((k : ℕ) → k < l.at → is_item_unreadable row (slice_get l.items k) ≡ false)
