-- The groups of files, added up.
use Rattle.std.specs.Prelude.{◌≡◌, ◌≤◌, ◌+◌, ◌++◌, ℕ, List, ◌∷◌, All, Contains, fold, if◌then◌else◌, length, map}
use Rattle.par_model.specs.Plan.{Plan}
use Rattle.par_model.specs.declared.state.AggState.{AggState}
use Rattle.partial_agg.specs.Groups.{GroupsByKey, added}
use Rattle.partial_agg.specs.declared.groups.Group.{Group as MapGroup}
use Rattle.state_blocks.specs.Blocks.{Group}
use Rattle.state_head.specs.Words.{Keys, keys_of}
use Rattle.state_lanes.specs.Lanes.{item_slots, kinds_of, lanes_of}
use Rattle.state_order.specs.Order.{DoesNotFollow, HasKeys, IsIn}
use Rattle.state_order.specs.Ranges.{is_within}
use Rattle.state_order.specs.declared.order.KeyOrder.{KeyOrder}
use Rattle.state_whole.specs.declared.adding.FileCount.{FileCount}
use Rattle.state_whole.specs.declared.adding.GroupFault.{GroupFault}
use Rattle.state_whole.specs.declared.adding.GroupFault.TheVariants as fault
use Rattle.state_whole.specs.declared.adding.Kept.{Kept}
use Rattle.state_whole.specs.declared.adding.Shape.{Shape}

-- at most eight aggregates, at most eight lanes, and which of them have numbers
pub record IsShape (shape : Shape) : Type 0 where
  pub kinds : shape.kinds.now ≡ kinds_of shape.lanes.now
  pub lanes : length shape.lanes.now ≤ 8
  pub items : length shape.items.now ≤ 8

-- the shape of a plan's files
pub record IsShapeOf (plan : Plan) (shape : Shape) : Type 0 where
  pub columns : shape.columns ≡ length plan.groups
  pub lanes : shape.lanes.now ≡ lanes_of plan.items
  pub kinds : shape.kinds.now ≡ kinds_of (lanes_of plan.items)
  pub items : shape.items.now ≡ plan.items

abbrev pub key_of : Group → List ℕ
key_of g = g.key

-- the state of a group: each aggregate has the slot of its lane
abbrev pub state_of : Shape → Group → AggState
state_of shape g = record { rows = g.rows; slots = item_slots shape.lanes.now g.slots shape.items.now }

-- the map after one group more, and after these, in order
abbrev pub with_group : Shape → GroupsByKey → Group → GroupsByKey
with_group shape m g = added m g.key (state_of shape g)

abbrev pub sum_with : Shape → GroupsByKey → List Group → GroupsByKey
sum_with shape m groups = fold (with_group shape) m groups

-- the map after a state was added under a key, if it is one that is kept
abbrev pub kept_with : Kept → GroupsByKey → List ℕ → AggState → GroupsByKey
kept_with kept m key state = if is_within kept.columns (keys_of kept.range) key then added m key state else m

-- the map after those of these groups, in order, that are kept
abbrev pub kept_sum : Shape → Kept → GroupsByKey → List Group → GroupsByKey
kept_sum shape kept m groups = fold (λ so_far g. kept_with kept so_far g.key (state_of shape g)) m groups

-- these groups of a file were added to a map, those that are kept
pub record HasAdded (shape : Shape) (kept : Kept) (range : Keys) (start : GroupsByKey) (groups : List Group) (m : GroupsByKey) (order : KeyOrder) (count : FileCount) : Type 0 where
  pub sum : m ≡ kept_sum shape kept start groups
  pub keys : HasKeys shape.columns range (map key_of groups) order
  pub many : count.groups ≡ length groups
  pub most : All (λ g. g.rows ≤ count.most) groups

-- why the key of the group of this number does not come next
abbrev pub IsNoKey : ℕ → Keys → List (List ℕ) → List ℕ → ℕ → GroupFault → Type 0
IsNoKey columns range keys key n fault.Memory = ⊥
IsNoKey columns range keys key n (fault.NoGroup number) = ⊥
IsNoKey columns range keys key n (fault.Order number) = (number ≡ n) × DoesNotFollow columns keys key
IsNoKey columns range keys key n (fault.Range number) = (number ≡ n) × (IsIn columns range key → ⊥)

-- why a group is not added after these
abbrev pub IsNoMore : Shape → Keys → List Group → Group → GroupFault → Type 0
IsNoMore shape range groups g fault.Memory = Unit {0}
IsNoMore shape range groups g (fault.NoGroup number) = ⊥
IsNoMore shape range groups g (fault.Order number) = (number ≡ length groups + 1) × DoesNotFollow shape.columns (map key_of groups) g.key
IsNoMore shape range groups g (fault.Range number) = (number ≡ length groups + 1) × (IsIn shape.columns range g.key → ⊥)

-- why these groups of a file are not added: one of them is not added after those before it
pub record CannotAdd (shape : Shape) (range : Keys) (groups : List Group) (why : GroupFault) : Type 0 where
  pub front : List Group
  pub g : Group
  pub rest : List Group
  pub is : groups ≡ front ++ g ∷ rest
  pub none : IsNoMore shape range front g why

-- a group has this many rows
pub record HasRows (rows : ℕ) (groups : List MapGroup) : Type 0 where
  pub group : MapGroup
  pub is : Contains groups group
  pub has : group.state.rows ≡ rows
