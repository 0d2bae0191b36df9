-- Groups that have a text: no two have the same key, and counts and sums are as rows give them.
use Rattle.std.specs.Prelude.{◌≡◌, ◌≤◌, ◌+◌, ◌*◌, ◌^◌, ℕ, List, All, bytes_eq, length, map, unsigned_abs}
use Rattle.std.specs.List.{IsDistinct}
use Rattle.par_model.specs.Key.{encoded}
use Rattle.par_model.specs.Named.{NamedPlan, bound_plan}
use Rattle.par_model.specs.Plan.{Plan}
use Rattle.par_model.specs.declared.plan.TheConstants.{MOST_PLACES}
use Rattle.par_model.specs.declared.state.SlotState.{SlotState}
use Rattle.partial_agg.specs.declared.groups.Group.{Group}

-- a plan over columns is that of these names under some header
pub record IsBoundFrom (names : NamedPlan) (plan : Plan) : Type 0 where
  pub header : List (List ℕ)
  pub is : plan ≡ bound_plan header names

-- a key is the encoding of this many columns
pub record IsKeyOf (count : ℕ) (key : List ℕ) : Type 0 where
  pub columns : List (List ℕ)
  pub many : length columns ≡ count
  pub is : key ≡ encoded columns

-- the most places of a text: those of an average of numbers with the most places
abbrev pub MOST_TEXT_PLACES : ℕ
MOST_TEXT_PLACES = MOST_PLACES + 4

-- a slot of at most 2^50 numbers of 64 signed bits
pub record IsSmallSlot (slot : SlotState) : Type 0 where
  pub count : slot.count ≤ 2 ^ 50
  pub sum : unsigned_abs slot.sum ≤ 2 ^ 63 * slot.count

-- no two groups have the same key, each key is the encoding of n columns if the plan groups by n, and the slots are
-- small
pub record ArePrintable (plan : Plan) (groups : List Group) : Type 0 where
  pub different : IsDistinct bytes_eq (map (λ group. group.key) groups)
  pub keys : All (λ group. IsKeyOf (length plan.groups) group.key) groups
  pub slots : All (λ group. All IsSmallSlot group.state.slots) groups
