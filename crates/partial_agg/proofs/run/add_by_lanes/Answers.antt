use Rattle.std.proofs.Common.{◌≡◌, ◌+◌, ◌*◌, ◌%◌, ◌^◌, ◌∙◌, ℕ, ap, sym, subst, get_or, length, map, refl, set, take}
use Rattle.std.proofs.lemmas.List.{length-map}
use Rattle.partial_agg.specs.Fitting.{AreReadable}
use Rattle.partial_agg.specs.Items.{items_state}
use Rattle.partial_agg.specs.Lanes.{states_in}
use Rattle.partial_agg.specs.Values.{slot_of_value}
use Rattle.partial_agg.proofs.Fitting.{lanes_read, length-read}
use Rattle.partial_agg.proofs.Lanes.{combine-states_in}
use Rattle.partial_agg.proofs.run.add_by_lanes.Goals as goal

pub returns-clause-added : goal.returns-clause-added
returns-clause-added g c =
    let layout = c.args.layout.now in
    let counts = c.args.counts.now in
    let lanes = c.args.lanes.now in
    let row = g.F.RowFields.fields c.args.row.now in
    let items = c.args.items.now in
    let kept = c.kept.result.now in
    let width = c.width-width.result in
    let values = take width c.read_some.new.values in
    let state = items_state row items in
    let theirs = map slot_of_value values in
    let many : width ≡ length kept = c.width-width.ensures.width ∙ sym c.kept.ensures.width in
    let are = lanes_read row items layout kept c.read_some.new.values width c.kept.ensures.kept many c.if-not-read_some.ensures.values in
    let count : length values ≡ layout.width = length-read row items kept c.read_some.new.values width many c.if-not-read_some.ensures.values ∙ c.width-width.ensures.width in
    let long : length theirs ≡ layout.width = length-map values slot_of_value ∙ count in
    let fits = c.requires.layout row (subst (AreReadable items row) c.kept.ensures.kept c.if-not-read_some.ensures.readable) in
    let first : c.args.at * width ≡ c.args.at * layout.width = ap (λ (n : ℕ). c.args.at * n) c.width-width.ensures.width in
    let r = (get_or counts c.args.at 0 + 1) % 2 ^ 64 in
    ap (states_in layout (set counts c.args.at r)) c.add_each.ensures
    ∙ combine-states_in layout counts lanes theirs r c.args.at (c.args.at * width) (length values) state first count are refl fits.0 long c.requires.place c.requires.whole

pub returns-clause-readable : goal.returns-clause-readable
returns-clause-readable g c =
    (c.requires.layout (g.F.RowFields.fields c.args.row.now) (subst (AreReadable c.args.items.now (g.F.RowFields.fields c.args.row.now)) c.kept.ensures.kept c.if-not-read_some.ensures.readable)).1
