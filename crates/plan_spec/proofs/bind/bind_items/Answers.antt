use Rattle.std.proofs.Common.{◌≡◌, ◌<◌, ◌≤◌, ◌+◌, ◌∙◌, length, take, drop, arith, length-append, length-set}
use Rattle.par_model.specs.declared.plan.ItemKind.TheVariants as kind
use Rattle.par_model.specs.declared.plan.TheConstants.{MOST_PLACES}
use Rattle.std.proofs.lemmas.List.Elements.{All-set}
use Rattle.std.specs.Prelude.{IsTrue, filter_map, is_none, option_to_list}
use Rattle.csv_rows.specs.Records.{record_at}
use Rattle.par_model.specs.Columns.{reads_column}
use Rattle.par_model.specs.Named.{bound_item, column_of}
use Rattle.par_model.specs.PlanLayout.{unused}
use Rattle.plan_spec.proofs.Fills.{filled-more}
use Rattle.plan_spec.proofs.Present.{filter_map-split, filter_map-take}
use Rattle.plan_spec.proofs.Places.{place-first, place-next, place-next-none}
use Rattle.plan_spec.proofs.bind.bind_items.Goals as goal

pub returns-in-None-clause-missing : goal.returns-in-None-clause-missing
returns-in-None-clause-missing c =
    let inv = c.items.invariant in
    let header = record_at c.args.rows.now 0 in
    let item = c.index-items-at.result in
    let before = filter_map (λ i. i.column) (take c.items.at c.args.items.now) in
    let named = filter_map-take (λ i. i.column) c.args.items.now c.items.at item c.items-test.true c.index-items-at.is in
    let all = filter_map-split (λ i. i.column) c.args.items.now c.items.at item c.items-test.true c.index-items-at.is in
    let front = place-next (λ n. is_none (column_of header n)) 0 before (option_to_list item.column) inv.present c.in-None.ensures.missing in
    let same : 0 + length before ≡ c.items.named = omega (arith, inv.named) in
    rw all (place-first (λ n. is_none (column_of header n)) 0 c.items.named (filter_map (λ i. i.column) (take (c.items.at + 1) c.args.items.now)) (filter_map (λ i. i.column) (drop (c.items.at + 1) c.args.items.now)) (rw named (rw same at front)))

pub items-preserved : goal.items-preserved
items-preserved c =
    let inv = c.items.invariant in
    let one = c.in-Some.ensures in
    let header = record_at c.args.rows.now 0 in
    let item = c.index-items-at.result in
    let before = filter_map (λ i. i.column) (take c.items.at c.args.items.now) in
    let there : c.items.at < length c.items.bound = omega (arith, inv.size, c.items-test.true, c.requires) in
    let named = filter_map-take (λ i. i.column) c.args.items.now c.items.at item c.items-test.true c.index-items-at.is in
    let more = filled-more (bound_item header) unused c.in-Some.one item c.items.bound c.args.items.now c.items.at 8 there c.items-test.true c.index-items-at.is one.item inv.items inv.rest in
    let size = length-append before (option_to_list item.column) in
    record {
      items = more.0;
      size = length-set c.items.bound c.items.at c.in-Some.one ∙ inv.size;
      no_column = All-set (λ item. item.kind ≡ kind.Rows → (item.column ≡ 0) × (item.places ≡ 0)) c.items.bound c.items.at c.in-Some.one one.no_column inv.no_column;
      below = All-set (λ item. IsTrue (reads_column item.kind) → item.column < length header) c.items.bound c.items.at c.in-Some.one one.below inv.below;
      places = All-set (λ item. item.places ≤ MOST_PLACES) c.items.bound c.items.at c.in-Some.one one.places inv.places;
      few = omega (arith, inv.few, one.within);
      rest = more.1;
      named = rw named (omega (arith, size, inv.named, one.count));
      present = rw named (place-next-none (λ n. is_none (column_of header n)) before (option_to_list item.column) inv.present one.whole);
    }
