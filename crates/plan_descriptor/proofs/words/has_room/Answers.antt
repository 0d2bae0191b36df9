use Rattle.std.proofs.Common.{◌≡◌, ◌≤◌, ap, arith, sym, take}
use Rattle.std.proofs.lemmas.List.{length-take}
use Rattle.std.proofs.lemmas.List.Elements.{All-take}
use Rattle.par_model.specs.declared.plan.Filter.{Filter}
use Rattle.par_model.specs.declared.plan.Item.{Item}
use Rattle.par_model.specs.declared.plan.ItemKind.TheVariants as kind
use Rattle.par_model.specs.declared.plan.TheConstants.{MOST_PLACES}
use Rattle.plan_descriptor.proofs.Filters.{places_of_filter}
use Rattle.plan_descriptor.proofs.words.has_room.Goals as goal

pub returns : goal.returns
returns c =
    let inside = c.plan.inside in
    let groups : c.args.plan.now.groups ≡ take inside.group_count inside.groups = sym (ap (λ p. p.groups) c.plan.view_is) in
    let items : c.args.plan.now.items ≡ take inside.item_count inside.items = sym (ap (λ p. p.items) c.plan.view_is) in
    let filters : c.args.plan.now.filters ≡ take inside.filter_count inside.filters = sym (ap (λ p. p.filters) c.plan.view_is) in
    record {
      groups = rw groups (omega (arith, length-take inside.group_count inside.groups));
      some_item = rw items (omega (arith, length-take inside.item_count inside.items, c.has_eight.ensures));
      items = rw items (omega (arith, length-take inside.item_count inside.items));
      no_column = rw items (All-take (λ (item : Item). item.kind ≡ kind.Rows → (item.column ≡ 0) × (item.places ≡ 0)) inside.item_count inside.items c.plan.invariant.no_column);
      item_places = rw items (All-take (λ (item : Item). item.places ≤ MOST_PLACES) inside.item_count inside.items c.plan.invariant.item_places);
      filter_places = places_of_filter c.args.plan.now (rw filters (All-take (λ (filter : Filter). filter.places ≤ MOST_PLACES) inside.filter_count inside.filters c.plan.invariant.filter_places));
    }
