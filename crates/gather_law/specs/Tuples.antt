-- What a participant's blocks come to, and the tuples that a worker sends for them.
use Rattle.std.specs.Prelude.{◌≡◌, ℕ, List, length, map as map_list}
use Rattle.std.specs.FinMap as map
use Rattle.std.specs.List.{AllByRecursion, flat_map}
use Rattle.std.specs.List.Sorted.{IsPermutation}
use Rattle.par_model.specs.Plan.{Plan}
use Rattle.par_model.specs.declared.state.AggState.{AggState}
use Rattle.partial_agg.specs.Groups.{with_rows}
use Rattle.row_blocks.specs.Blocks.{Table}
use Rattle.tuple_codec.specs.Tuple.{IsTuple, tuple_bytes}

-- a key and the partial aggregates of some of its rows
abbrev pub Group : Type 0
Group = List ℕ × AggState

-- the groups of some rows, in the order of their keys
abbrev pub groups_of : Plan → Table → List Group
groups_of plan rows = map.entries (with_rows plan map.empty rows)

-- a group as a tuple
abbrev pub tuple_of : Plan → Group → List ℕ
tuple_of plan group = tuple_bytes group.0 group.1 (length plan.items)

-- a group that has a tuple
abbrev pub HasTuple : Plan → Group → Type 0
HasTuple plan group = IsTuple group.0 group.1 (length plan.items)

-- bytes are the tuple of a group
pub record IsTupleOf (plan : Plan) (bytes : List ℕ) : Type 0 where
  pub group : Group
  pub has : HasTuple plan group
  pub is : bytes ≡ tuple_of plan group

-- messages are the tuples of some rows: the rows were cut into batches, and the groups of all batches were sent, each
-- once, in any order
pub record AreTuples (plan : Plan) (rows : Table) (messages : List (List ℕ)) : Type 0 where
  pub batches : List Table
  pub cut : flat_map (λ batch. batch) batches ≡ rows
  pub groups : List Group
  pub all : IsPermutation (flat_map (groups_of plan) batches) groups
  pub sent : messages ≡ map_list (tuple_of plan) groups
  pub written : AllByRecursion (HasTuple plan) groups
