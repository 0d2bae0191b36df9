-- A plan as words name it, before its names are looked up in a header.
use Rattle.std.specs.Prelude.{◌++◌, ℕ, Bool, List, Option, find, filter_map, is_none, map, bytes_eq, unwrap_or}
use Rattle.std.specs.List.{position_from}
use Rattle.std.specs.Option.{option_map_or}
use Rattle.par_model.specs.Plan.{Plan}
use Rattle.par_model.specs.declared.plan.Filter.{Filter}
use Rattle.par_model.specs.declared.plan.FilterTest.{FilterTest}
use Rattle.par_model.specs.declared.plan.Item.{Item}
use Rattle.par_model.specs.declared.plan.ItemKind.{ItemKind}

-- an aggregate, the name of its column if it reads one, and the places of the column's numbers
pub record NamedItem : Type 0 where
  pub kind : ItemKind
  pub column : Option (List ℕ)
  pub places : ℕ

-- a filter by the name of its column, the test, and the places of the column's numbers
pub record NamedFilter : Type 0 where
  pub column : List ℕ
  pub test : FilterTest
  pub places : ℕ

-- the names to group by, the aggregates, whether the shared hash table is to be used, and the filters
pub record NamedPlan : Type 0 where
  pub groups : List (List ℕ)
  pub items : List NamedItem
  pub hash : Bool
  pub filters : List NamedFilter

-- every name of a plan, in order: those to group by, those of the aggregates, those of the filters
abbrev pub names_of : NamedPlan → List (List ℕ)
names_of plan = plan.groups ++ (filter_map (λ item. item.column) plan.items ++ map (λ filter. filter.column) plan.filters)

-- the column of a name: the first field of the header with the name's bytes
abbrev pub column_of : List (List ℕ) → List ℕ → Option ℕ
column_of header name = position_from (bytes_eq name) 0 header

-- the first name of a plan that the header does not have
unfoldable pub missing_name : List (List ℕ) → NamedPlan → Option (List ℕ)
missing_name header plan = find (λ name. is_none (column_of header name)) (names_of plan)

-- a name's column in a header that has it
abbrev pub bound_column : List (List ℕ) → List ℕ → ℕ
bound_column header name = unwrap_or (column_of header name) 0

-- an aggregate over the column of its name, and over column 0 if it has none
abbrev pub bound_item : List (List ℕ) → NamedItem → Item
bound_item header item = record { kind = item.kind; column = option_map_or (bound_column header) item.column 0; places = item.places }

-- a filter over the column of its name
abbrev pub bound_filter : List (List ℕ) → NamedFilter → Filter
bound_filter header filter = record { column = bound_column header filter.column; test = filter.test; places = filter.places }

-- the plan over the columns of a header that has all its names
abbrev pub bound_plan : List (List ℕ) → NamedPlan → Plan
bound_plan header plan = record { groups = map (bound_column header) plan.groups; items = map (bound_item header) plan.items; hash = plan.hash; filters = map (bound_filter header) plan.filters }
