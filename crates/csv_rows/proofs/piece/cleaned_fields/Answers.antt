use Rattle.std.proofs.Common.{◌<◌, ◌≤◌, ◌∙◌, [], length, map, ap, refl, rules}
use Rattle.std.proofs.lemmas.List.{map_more, take_all}
use Rattle.csv_rows.specs.Readings.{cleaned}
use Rattle.csv_rows.specs.Store.{cut_apart}
use Rattle.csv_rows.proofs.Cleaned.{cut-none}
use Rattle.csv_rows.proofs.Gaps.{apart-length}
use Rattle.csv_rows.proofs.Groups.{covers-none}
use Rattle.csv_rows.proofs.piece.cleaned_fields.Goals as goal

pub fields-init : goal.fields-init
fields-init c =
    rw (c.reserve_exact-2.ensures.items, c.new-places.ensures.items, c.reserve_exact.ensures.items, c.new-texts.ensures.items) (record { covers = covers-none; fields = cut-none })

pub fields-preserved : goal.fields-preserved
fields-preserved c =
    let inv = c.fields.invariant in
    let xs = cut_apart c.args.gap 0 c.args.ends.now.items c.args.bytes.now.items in
    let e = c.in_ok-push_field.ensures in
    let at = rw c.as_slice.ensures.value at c.field_at-field.ensures in
    let lt : c.fields.i < length c.args.ends.now.items = search rules in
    let short : c.fields.i < length xs = rw (apart-length c.args.gap 0 c.args.ends.now.items c.args.bytes.now.items) lt in
    record {
      covers = e.covers;
      fields = rw (e.fields, inv.fields, c.cleaned.ensures, at, map_more (cleaned c.args.reading.now) xs c.fields.i [] short) refl;
    }

pub returns-clause-fields : goal.returns-clause-fields
returns-clause-fields c =
    let xs = cut_apart c.args.gap 0 c.args.ends.now.items c.args.bytes.now.items in
    let end : length c.args.ends.now.items ≤ c.fields.i = search rules in
    let whole : length xs ≤ c.fields.i = rw (apart-length c.args.gap 0 c.args.ends.now.items c.args.bytes.now.items) end in
    c.fields.invariant.fields ∙ ap (map (cleaned c.args.reading.now)) (take_all c.fields.i xs whole)
