-- How a plan's lists lie in its arrays of eight places.
use Rattle.std.specs.Prelude.{◌≡◌, ◌≤◌, replicate, take, drop, ◌-◌, All}
use Rattle.par_model.specs.Plan.{Plan}
use Rattle.par_model.specs.declared.plan.BoundPlan.TheInside.{Inside}
use Rattle.par_model.specs.declared.plan.Item.{Item}
use Rattle.par_model.specs.declared.plan.ItemKind.TheVariants as kind
use Rattle.par_model.specs.declared.plan.TheConstants.{MOST_PLACES}

-- what an unused place of the aggregates holds
abbrev pub unused : Item
unused = record { kind = kind.Rows; column = 0; places = 0 }

-- the lists that lie at the front of the arrays
abbrev pub plan_of : Inside → Plan
plan_of a = record { groups = take a.group_count a.groups; items = take a.item_count a.items; hash = a.hash; filters = take a.filter_count a.filters }

-- the counts are at most eight, there is an aggregate, the places past the counts are unused, an item that reads no
-- column has column 0 and no places, and no number has more places than it may
pub record IsPadded (a : Inside) : Type 0 where
  pub groups_fit : a.group_count ≤ 8
  pub some_item : 1 ≤ a.item_count
  pub items_fit : a.item_count ≤ 8
  pub groups_end : drop a.group_count a.groups ≡ replicate (8 - a.group_count) 0
  pub items_end : drop a.item_count a.items ≡ replicate (8 - a.item_count) unused
  pub no_column : All (λ item. item.kind ≡ kind.Rows → (item.column ≡ 0) × (item.places ≡ 0)) a.items
  pub item_places : All (λ item. item.places ≤ MOST_PLACES) a.items
  pub filters_fit : a.filter_count ≤ 8
  pub filter_places : All (λ filter. filter.places ≤ MOST_PLACES) a.filters
