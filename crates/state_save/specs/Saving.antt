-- What a file has of the groups of a map.
use Rattle.std.specs.Prelude.{◌≡◌, ◌<◌, ◌≤◌, ◌⊎◌, ◌^◌, [], ℕ, List, All, length, map}
use Rattle.std.specs.List.Sorted.{IsPermutation}
use Rattle.partial_agg.specs.declared.groups.Group.{Group as MapGroup}
use Rattle.result_text.specs.GroupOrder.{group_of}
use Rattle.result_text.specs.declared.order.GroupRef.{GroupRef}
use Rattle.state_blocks.specs.Blocks.{Group, IsTuple}
use Rattle.state_body.specs.Body.{IsBody, foot_bytes}
use Rattle.state_front.specs.Front.{IsFront, front_bytes}
use Rattle.state_head.specs.Head.{Preface, head_bytes}
use Rattle.state_lanes.specs.Lanes.{lane_slots}
use Rattle.state_order.specs.Order.{IsIn, Rise}
use Rattle.state_whole.specs.Adding.{IsShape, key_of, state_of}
use Rattle.state_whole.specs.Files.{IsStateFile, StateFile, tuples_in}
use Rattle.state_whole.specs.Sums.{HasRefused}
use Rattle.state_whole.specs.declared.adding.Shape.{Shape}
use Rattle.state_writer.specs.Writing.{Ends, Fit, blocks_of}

-- a group of a map as a file has it, with a slot for each lane
abbrev pub tuple_of : Shape → MapGroup → Group
tuple_of shape g = record { key = g.key; rows = g.state.rows; slots = lane_slots shape.lanes.now shape.items.now g.state.slots }

-- the tuples of the groups at some places, in their order
abbrev pub tuples_at : Shape → List MapGroup → List GroupRef → List Group
tuples_at shape groups refs = map (λ ref. tuple_of shape (group_of groups ref)) refs

-- these are some groups of a map, in the order of the table
pub record AreTuplesOf (shape : Shape) (groups : List MapGroup) (tuples : List Group) : Type 0 where
  pub same : IsPermutation (map (tuple_of shape) groups) tuples
  pub rise : Rise shape.columns (map key_of tuples)

-- they are written after a head that ends at this place
pub record AreWritten (shape : Shape) (groups : List MapGroup) (at : ℕ) (old new : List ℕ) : Type 0 where
  pub tuples : List Group
  pub are : AreTuplesOf shape groups tuples
  pub ends : Ends shape.kinds.now at tuples [] old new

-- a group that a file can have: a tuple tells it
pub record IsTold (shape : Shape) (g : MapGroup) : Type 0 where
  pub tuple : Group
  pub is_tuple : IsTuple shape.columns shape.kinds.now tuple
  pub is : g ≡ record { key = tuple.key; state = state_of shape tuple }

-- a file of these groups of a map
pub record IsFileOf (shape : Shape) (preface : Preface) (groups : List MapGroup) (f : StateFile) : Type 0 where
  pub preface_is : f.preface ≡ preface
  pub are : AreTuplesOf shape groups (tuples_in f)
  pub is_body : All (IsTold shape) groups → IsBody shape.columns shape.kinds.now (length (front_bytes preface)) f.blocks

-- a file that a reader takes: a right head, groups that rows can give, which lie within its range, and no group if a row is refused
pub record CanBeRead (shape : Shape) (preface : Preface) (groups : List MapGroup) : Type 0 where
  pub is_front : IsFront preface
  pub told : All (IsTold shape) groups
  pub within : All (λ group. IsIn shape.columns preface.keys group.key) groups
  pub counted : 0 < length groups → HasRefused preface.cover → ⊥

-- what is saved so is read
abbrev pub SavedIsRead : Type 0
SavedIsRead = (shape : Shape) (preface : Preface) (groups : List MapGroup) (f : StateFile) → CanBeRead shape preface groups → IsFileOf shape preface groups f → IsStateFile shape.columns shape.kinds.now f

-- ---- a file that is too long

-- the head is too long for a file
abbrev pub HasLongHead : Preface → Type 0
HasLongHead preface = 2 ^ 28 < length (head_bytes preface)

-- the foot of a file of these groups is: it has the place and the first key of each block
pub record HasLongFoot (shape : Shape) (preface : Preface) (groups : List MapGroup) : Type 0 where
  pub tuples : List Group
  pub are : AreTuplesOf shape groups tuples
  pub long : 2 ^ 28 < length (foot_bytes shape.kinds.now (length (front_bytes preface)) (blocks_of shape.kinds.now tuples))

-- a file of these groups is too long, since its head or its foot is
abbrev pub IsLongFile : Shape → Preface → List MapGroup → Type 0
IsLongFile shape preface groups = HasLongHead preface ⊎ HasLongFoot shape preface groups

-- groups that do not fit behind a head of at most 2^28 bytes
abbrev pub DoNotFit : Shape → Preface → List MapGroup → Type 0
DoNotFit shape preface groups = length (head_bytes preface) ≤ 2 ^ 28 → (tuples : List Group) × AreTuplesOf shape groups tuples × (Fit shape.kinds.now (length (front_bytes preface)) tuples → ⊥)

-- at most 2^50 groups that rows can give fit into blocks, so only a head or a foot can be too long
abbrev pub LongIsKnown : Type 0
LongIsKnown = (shape : Shape) (preface : Preface) (groups : List MapGroup) → IsShape shape → All (IsTold shape) groups → length groups ≤ 2 ^ 50 → DoNotFit shape preface groups → IsLongFile shape preface groups
