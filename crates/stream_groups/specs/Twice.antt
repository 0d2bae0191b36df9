-- A column of a plan that a header has twice.
use Rattle.std.specs.Prelude.{◌≡◌, ◌++◌, ◌+◌, [], ◌∷◌, ℕ, List, None, Option, Some, bytes_eq, codes, decimal, drop, get_or, if◌then◌else◌, map, option_map}
use Rattle.std.specs.List.{position_from}
use Rattle.par_model.specs.Columns.{reads_column}
use Rattle.par_model.specs.Plan.{Plan}
use Rattle.par_model.specs.declared.plan.Item.{Item}
use Rattle.shown_text.specs.Shown.{shown_text}
use Rattle.stream_groups.specs.declared.twice.Twice.{Twice}

-- a column, and the next field of the header with the same bytes
abbrev pub later_same : List (List ℕ) → ℕ → Option Twice
later_same header column = option_map (λ next. record { first = column; second = next }) (position_from (bytes_eq (get_or header column [])) (column + 1) (drop (column + 1) header))

-- likewise of the column that an aggregate reads, if it reads one
abbrev pub item_same : List (List ℕ) → Item → Option Twice
item_same header item = if reads_column item.kind then later_same header item.column else None

-- the first that there is
unfoldable pub first_some : List (Option Twice) → Option Twice
first_some [] = None
first_some (None ∷ more) = first_some more
first_some (Some twice ∷ more) = Some twice

-- of the columns to group by, of those of the aggregates, and of those of the filters
abbrev pub group_twice : Plan → List (List ℕ) → List (Option Twice)
group_twice plan header = map (λ column. later_same header column) plan.groups

abbrev pub item_twice : Plan → List (List ℕ) → List (Option Twice)
item_twice plan header = map (λ item. item_same header item) plan.items

abbrev pub filter_twice : Plan → List (List ℕ) → List (Option Twice)
filter_twice plan header = map (λ filter. later_same header filter.column) plan.filters

-- the first column that a plan reads, in this order, which the header has twice
abbrev pub twice_of : Plan → List (List ℕ) → Option Twice
twice_of plan header = first_some (group_twice plan header ++ (item_twice plan header ++ filter_twice plan header))

-- the name, and the numbers of the two fields, of which the first has number 1
abbrev pub twice_text : List ℕ → Twice → List ℕ
twice_text name twice = codes "the header has column " ++ (shown_text name ++ (codes " twice: fields " ++ (decimal (twice.first + 1) ++ (codes " and " ++ decimal (twice.second + 1)))))

-- a text says of a plan that a header has a column of it twice
pub record SaysTwice (plan : Plan) (header : List (List ℕ)) (said : List ℕ) : Type 0 where
  pub twice : Twice
  pub is : twice_of plan header ≡ Some twice
  pub says : said ≡ twice_text (get_or header twice.first []) twice
