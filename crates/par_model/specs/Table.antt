-- The table that answers a query, and its text: SELECT .. GROUP BY .. ORDER BY of SQL, written as RFC 4180 has it.
use Rattle.std.specs.Prelude.{◌≡◌, ◌==◌, ◌+◌, ◌++◌, ◌∷◌, [], ◌↔◌, ℕ, List, Contains, codes, decimal, filter, if◌then◌else◌, length, map, zip}
use Rattle.std.specs.Cmp.Lexicographic.{slice_cmp}
use Rattle.std.specs.List.{concat}
use Rattle.std.specs.List.Sorted.{IsStrictlySortedBy}
use Rattle.std.specs.Option.{option_map_or}
use Rattle.std.specs.Ordering.{nat_cmp}
use Rattle.std.specs.declared.cmp.Ordering.{Ordering}
use Rattle.csv.specs.Writing.{default_writer, row_text}
use Rattle.par_model.specs.Aggregate.{state_of}
use Rattle.par_model.specs.Decimal.{average, number_text}
use Rattle.par_model.specs.Keep.{is_kept}
use Rattle.par_model.specs.Key.{columns_of, encoded}
use Rattle.par_model.specs.Named.{NamedItem, NamedPlan}
use Rattle.par_model.specs.Plan.{Plan}
use Rattle.par_model.specs.declared.plan.ItemKind.{ItemKind}
use Rattle.par_model.specs.declared.plan.ItemKind.TheVariants as kind
use Rattle.par_model.specs.declared.state.AggState.{AggState}
use Rattle.par_model.specs.declared.state.SlotState.{SlotState}

-- how an aggregate is written
abbrev pub kind_text : ItemKind → List ℕ
kind_text kind.Rows = codes "count"
kind_text kind.Count = codes "count"
kind_text kind.Sum = codes "sum"
kind_text kind.Min = codes "min"
kind_text kind.Max = codes "max"
kind_text kind.Avg = codes "avg"

-- the name of an output column, as `count` or `sum(v)`
abbrev pub item_text : NamedItem → List ℕ
item_text item = kind_text item.kind ++ option_map_or (λ name. codes "(" ++ (name ++ codes ")")) item.column []

-- the header of the table: the columns to group by, then the aggregates
abbrev pub table_header : NamedPlan → List (List ℕ)
table_header plan = plan.groups ++ map item_text plan.items

-- a text, or a null if there are no values
abbrev pub or_null : ℕ → List ℕ → List ℕ
or_null count text = if count == 0 then [] else text

-- what an aggregate of numbers with these places prints for a group that has this many rows; an average has four more
abbrev pub value_text : ItemKind → ℕ → ℕ → SlotState → List ℕ
value_text kind.Rows places rows slot = decimal rows
value_text kind.Count places rows slot = decimal slot.count
value_text kind.Sum places rows slot = or_null slot.count (number_text places slot.sum)
value_text kind.Min places rows slot = or_null slot.count (number_text places slot.least)
value_text kind.Max places rows slot = or_null slot.count (number_text places slot.greatest)
value_text kind.Avg places rows slot = or_null slot.count (number_text (places + 4) (average slot.sum slot.count))

-- the values of a group's state, one for each aggregate of the plan
abbrev pub values_text : Plan → AggState → List (List ℕ)
values_text plan state = map (λ p. value_text p.0.kind p.0.places state.rows p.1) (zip plan.items state.slots)

-- the record of a group with these columns
abbrev pub group_record : Plan → List (List (List ℕ)) → List (List ℕ) → List (List ℕ)
group_record plan rows columns = columns ++ values_text plan (state_of plan rows (encoded columns))

-- the groups that occur: those of the kept rows, or the one group of all rows if there is no column to group by
abbrev pub occurring : Plan → List (List (List ℕ)) → List (List (List ℕ))
occurring plan rows = if length plan.groups == 0 then [] ∷ [] else map (columns_of plan) (filter (is_kept plan) rows)

-- lists of columns compare column by column, and columns byte by byte
abbrev pub columns_cmp : List (List ℕ) → List (List ℕ) → Ordering
columns_cmp = slice_cmp (slice_cmp nat_cmp)

-- the second list has the elements of the first, each once and in rising order: SELECT DISTINCT .. ORDER BY
pub record IsDistinctSorted (all distinct : List (List (List ℕ))) : Type 0 where
  pub rising : IsStrictlySortedBy columns_cmp distinct
  pub same : (columns : List (List ℕ)) → Contains distinct columns ↔ Contains all columns

-- the table of a plan over these rows: the header, and a record for each group in order
pub record IsTable (names : NamedPlan) (plan : Plan) (rows table : List (List (List ℕ))) : Type 0 where
  pub groups : List (List (List ℕ))
  pub each : IsDistinctSorted (occurring plan rows) groups
  pub is : table ≡ table_header names ∷ map (group_record plan rows) groups

-- the text of a table: its records, one after the other
unfoldable pub table_text : List (List (List ℕ)) → List ℕ
table_text table = concat (map (row_text default_writer) table)
