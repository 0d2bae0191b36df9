-- The plan descriptor: a plan as words of 64 bits, by which all participants of a query find it in shared memory.
-- Version 2 has 32 words. Version 1 has the first 28 of them, and neither a filter nor places.
use Rattle.std.specs.Prelude.{◌≡◌, ◌==◌, ◌&&◌, ◌||◌, ◌+◌, ◌-◌, ◌*◌, ◌/◌, ◌%◌, ◌<◌, ◌≤◌, ◌^◌, ◌⊎◌, ℕ, Bool, true, All, List, [], ◌∷◌, Option, Some, None, FitsSigned, if◌then◌else◌, length, map, nat_le, nat_lt, not, option_and_then, slice_get, slice_index, slice_index_or}
use Rattle.std.specs.Int.{cast_unsigned, w64}
use Rattle.std.specs.List.{position_from, range_with_len}
use Rattle.std.specs.Option.{ForSome}
use Rattle.par_model.specs.Plain.{is_plain}
use Rattle.par_model.specs.Plan.{Plan}
use Rattle.par_model.specs.PlanLayout.{unused}
use Rattle.par_model.specs.declared.plan.Filter.{Filter}
use Rattle.par_model.specs.declared.plan.FilterOp.{FilterOp}
use Rattle.par_model.specs.declared.plan.FilterOp.TheVariants as op
use Rattle.par_model.specs.declared.plan.FilterTest.{FilterTest}
use Rattle.par_model.specs.declared.plan.FilterTest.TheVariants as test
use Rattle.par_model.specs.declared.plan.Item.{Item}
use Rattle.par_model.specs.declared.plan.ItemKind.{ItemKind}
use Rattle.par_model.specs.declared.plan.ItemKind.TheVariants as kind
use Rattle.par_model.specs.declared.plan.TheConstants.{MOST_PLACES}
use Rattle.word_map.specs.WordMap.{WordMap, values_from}
use Rattle.shm_toc.specs.Table.{word_of}
use Rattle.plan_descriptor.specs.declared.words.NumberFilter.{NumberFilter}

-- ---- the words of a plan

-- how many words a descriptor of a version has
abbrev pub size_of : ℕ → ℕ
size_of version = if version == 2 then 32 else 28

-- the word of a kind of aggregate
abbrev pub kind_word : ItemKind → ℕ
kind_word kind.Rows = 0
kind_word kind.Count = 1
kind_word kind.Sum = 2
kind_word kind.Min = 3
kind_word kind.Max = 4
kind_word kind.Avg = 5

-- the word of a filter's relation; 0 stands for no filter
abbrev pub relation_word : FilterOp → ℕ
relation_word op.Equal = 1
relation_word op.NotEqual = 2
relation_word op.Less = 3
relation_word op.LessEqual = 4
relation_word op.Greater = 5
relation_word op.GreaterEqual = 6

-- words 0 to 3: the version, the number of columns to group by, the number of aggregates, and 1 for the plan over the
-- shared hash table
abbrev pub head_word : ℕ → Plan → ℕ → ℕ
head_word version plan k = if k == 0 then version else (if k == 1 then length plan.groups else (if k == 2 then length plan.items else (if plan.hash then 1 else 0)))

-- a column in the lower 32 bits, and how many places its numbers have in the upper ones
abbrev pub column_word : ℕ → ℕ → ℕ
column_word column places = column + 2 ^ 32 * places

-- the two words of an aggregate: its kind, and its column
abbrev pub item_word : Item → ℕ → ℕ
item_word item k = if k == 0 then kind_word item.kind else column_word item.column item.places

-- a filter of this column and these places, if its test is one of numbers
abbrev pub number_filter : ℕ → ℕ → FilterTest → Option NumberFilter
number_filter column places (test.Number op value) = Some (record { column = column; op = op; value = value; places = places })
number_filter column places (test.Is text) = None
number_filter column places (test.IsNot text) = None

-- the filter of a plan that a descriptor has: the first, if it is one of numbers
abbrev pub filter_of : Plan → Option NumberFilter
filter_of plan = option_and_then (λ filter. number_filter filter.column filter.places filter.test) (slice_get plan.filters 0)

-- the filters of a plan that has this one, or none
abbrev pub plain_filters : Option NumberFilter → List Filter
plain_filters None = []
plain_filters (Some filter) = record { column = filter.column; test = test.Number filter.op filter.value; places = filter.places } ∷ []

-- the last four words: the filter's relation, its column, its value in two's complement, and a zero; without a filter
-- four zeros
abbrev pub filter_word : Option NumberFilter → ℕ → ℕ
filter_word None k = 0
filter_word (Some filter) k = if k == 0 then relation_word filter.op else (if k == 1 then column_word filter.column filter.places else (if k == 2 then cast_unsigned w64 filter.value else 0))

-- the word at a place: the head in words 0 to 3, the columns to group by in words 4 to 11, the aggregates in words 12
-- to 27, and the filter from word 28 on. What a place has that no column or aggregate uses is zero
abbrev pub plan_word : ℕ → Plan → ℕ → ℕ
plan_word version plan k = if nat_lt k 4 then head_word version plan k else (if nat_lt k 12 then slice_index plan.groups (k - 4)
    else (if nat_lt k 28 then item_word (slice_index_or plan.items ((k - 12) / 2) unused) (k % 2) else filter_word (filter_of plan) (k - 28)))

-- all words of a plan, in a version
unfoldable pub plan_words : ℕ → Plan → List ℕ
plan_words version plan = map (plan_word version plan) (range_with_len 0 (size_of version))

-- words are the descriptor of a plan: in version 2, or in version 1 if the plan has no filters and no places
abbrev pub IsDescriptor : List ℕ → Plan → Type 0
IsDescriptor words plan = (words ≡ plan_words 2 plan) ⊎ ((words ≡ plan_words 1 plan) × (plan.filters ≡ []) × All (λ item. item.places ≡ 0) plan.items)

-- the plan's lists have room in its arrays: at most eight columns to group by, one to eight aggregates, and column 0
-- without places if an aggregate reads none; no number has more places than it may
pub record HasRoom (plan : Plan) : Type 0 where
  pub groups : length plan.groups ≤ 8
  pub some_item : 1 ≤ length plan.items
  pub items : length plan.items ≤ 8
  pub no_column : All (λ item. item.kind ≡ kind.Rows → (item.column ≡ 0) × (item.places ≡ 0)) plan.items
  pub item_places : All (λ item. item.places ≤ MOST_PLACES) plan.items
  pub filter_places : ForSome (filter_of plan) (λ filter. filter.places ≤ MOST_PLACES)

-- the plan can be written: it has at most one filter, which is of numbers; its lists have room, its columns have 32 bits,
-- and its filter's value has 64 and a sign
pub record IsWritable (plan : Plan) : Type 0 where
  pub plain : is_plain plan ≡ true
  pub room : HasRoom plan
  pub group_columns : All (λ column. column < 2 ^ 32) plan.groups
  pub item_columns : All (λ item. item.column < 2 ^ 32) plan.items
  pub filter : ForSome (filter_of plan) (λ filter. (filter.column < 2 ^ 32) × FitsSigned w64 filter.value)

-- ---- which words are allowed

-- a column below 2 ^ 32 if there is one, and else zero
abbrev pub is_column : Bool → ℕ → Bool
is_column stands word = if stands then nat_lt word (2 ^ 32) else word == 0

-- a column and in version 2 at most eighteen places if there is one, and else zero
abbrev pub is_placed : List ℕ → Bool → ℕ → Bool
is_placed words stands word = if slice_index words 0 == 1 then is_column stands word else (if stands then nat_lt word (2 ^ 32 * (MOST_PLACES + 1)) else word == 0)

-- the version, 1 or 2; at most eight columns; one to eight aggregates; the plan, 0 or 1
abbrev pub is_head : ℕ → ℕ → Bool
is_head k word = if k == 0 then word == 1 || word == 2 else (if k == 1 then nat_le word 8 else (if k == 2 then nat_le 1 word && nat_le word 8 else nat_le word 1))

-- the two words of the aggregate at place i: a kind, and a column if the kind reads one; zeros past the number of
-- aggregates
abbrev pub is_item : List ℕ → ℕ → ℕ → ℕ → Bool
is_item words i k word = if k == 0 then (if nat_lt i (slice_index words 2) then nat_le word 5 else word == 0)
    else is_placed words (nat_lt i (slice_index words 2) && not (slice_index words (12 + 2 * i) == 0)) word

-- the words of the filter: a relation, and with one a column and any value; without one zeros
abbrev pub is_filter : List ℕ → ℕ → ℕ → Bool
is_filter words k word = if k == 0 then nat_le word 6 else (if k == 1 then is_placed words (not (slice_index words 28 == 0)) word
    else (if k == 2 then not (slice_index words 28 == 0) || word == 0 else word == 0))

-- whether the word at a place is allowed there
abbrev pub is_allowed : List ℕ → ℕ → Bool
is_allowed words k = if nat_lt k 4 then is_head k (slice_index words k) else (if nat_lt k 12 then is_column (nat_lt (k - 4) (slice_index words 1)) (slice_index words k)
    else (if nat_lt k 28 then is_item words ((k - 12) / 2) (k % 2) (slice_index words k) else is_filter words (k - 28) (slice_index words k)))

-- the least place whose word is not allowed
abbrev pub bad_word : List ℕ → Option ℕ
bad_word words = position_from (λ k. not (is_allowed words k)) 0 (range_with_len 0 (length words))

-- ---- where it lies

-- the words of the descriptor from a place on; the first of them says how many there are
abbrev pub descriptor_in : WordMap → ℕ → List ℕ
descriptor_in m place = values_from m place (size_of (word_of m place))
