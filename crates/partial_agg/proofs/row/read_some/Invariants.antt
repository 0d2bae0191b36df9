use Rattle.std.proofs.Common.{◌≡◌, ℕ, length, map, slice_get, take}
use Rattle.partial_agg.specs.Fitting.{AreReadable}
use Rattle.partial_agg.specs.Items.{item_value}
use Rattle.partial_agg.proofs.row.read_some.Given as goal

abbrev pub invariant-loop-i : goal.invariant-loop-i
invariant-loop-i g l = record { long : length l.values ≡ 8; values : take l.i l.values ≡ map (λ (at : ℕ). item_value (g.F.RowFields.fields l.row) (slice_get l.items at)) (take l.i l.places); readable : AreReadable l.items (g.F.RowFields.fields l.row) (take l.i l.places) }
