use Rattle.std.proofs.Common.{◌≡◌, ◌∙◌, arith, false, ℕ, length-set, slice_get, take}
use Rattle.std.proofs.lemmas.List.{take_more}
use Rattle.std.proofs.lemmas.List.Elements.{All-push, All-same}
use Rattle.partial_agg.specs.Items.{is_item_unreadable, item_value}
use Rattle.partial_agg.proofs.Lanes.{map_step}
use Rattle.partial_agg.proofs.row.read_some.Goals as goal

pub loop-i-preserved : goal.loop-i-preserved
loop-i-preserved g c =
    let row = (g.F.RowFields.fields c.args.row.now) in
    let items = c.args.items.now in
    let places = c.args.places.now in
    let inv = c.loop-i.invariant in
    record {
      long = length-set c.loop-i.values c.loop-i.i c.in-Ok.value ∙ inv.long;
      values = map_step (λ (at : ℕ). item_value row (slice_get items at)) places c.loop-i.values c.loop-i.i _ c.in-Ok.value c.loop-i-test.true (omega (arith, inv.long, c.requires.few)) inv.values c.in-Ok.ensures.value;
      readable = All-same (λ (at : ℕ). is_item_unreadable row (slice_get items at) ≡ false) _ _ (take_more places c.loop-i.i _ c.loop-i-test.true)
          (All-push (λ (at : ℕ). is_item_unreadable row (slice_get items at) ≡ false) (take c.loop-i.i places) _ inv.readable c.in-Ok.ensures.readable);
    }
