-- The sum of several files, and why a file is not added to it.
use Rattle.std.specs.Prelude.{◌≡◌, ◌<◌, ◌≤◌, ◌^◌, ◌++◌, ◌∷◌, ◌||◌, [], ℕ, Bool, true, false, List, All, length, map}
use Rattle.partial_agg.specs.Groups.{GroupsByKey}
use Rattle.partial_agg.specs.Listed.{listed}
use Rattle.state_blocks.specs.Blocks.{Group}
use Rattle.state_body.specs.Body.{IsBody, body_bytes, groups_of}
use Rattle.state_body.specs.Faults.{IsNoBody}
use Rattle.state_head.specs.Head.{Preface}
use Rattle.state_head.specs.Words.{Keys, keys_of}
use Rattle.state_head.specs.declared.cover.Rows.{Rows}
use Rattle.state_head.specs.declared.cover.Rows.TheVariants.{Counted, Refused}
use Rattle.state_head.specs.declared.cover.Stretch.{Stretch}
use Rattle.state_order.specs.Order.{AreInOrder}
use Rattle.state_order.specs.Ranges.{AreWithin}
use Rattle.state_whole.specs.Adding.{CannotAdd, key_of, sum_with}
use Rattle.state_whole.specs.declared.adding.Shape.{Shape}
use Rattle.state_whole.specs.declared.files.FileFault.{FileFault}
use Rattle.state_whole.specs.declared.files.FileFault.TheVariants as fault
use Rattle.state_whole.specs.declared.files.Sum.{Sum}

-- a group has at most 2^50 rows
abbrev pub AreBounded : GroupsByKey → Type 0
AreBounded m = All (λ group. group.state.rows ≤ 2 ^ 50) (listed m)

-- the groups of the files so far, of which those are there that the sum keeps, and the stretches
pub record AreSummed (m : GroupsByKey) (cover : List Stretch) (sum : Sum) : Type 0 where
  pub are_within : AreWithin sum.kept.columns (keys_of sum.kept.range) m sum.map
  pub cover_is : sum.cover.items ≡ cover
  pub most : sum.most ≤ 2 ^ 50
  pub bound : All (λ group. group.state.rows ≤ sum.most) (listed sum.map)

-- whether a row of some stretches is refused
abbrev pub is_refused : Rows → Bool
is_refused (Counted rows) = false
is_refused (Refused why) = true

abbrev pub has_refused : List Stretch → Bool
has_refused [] = false
has_refused (s ∷ cover) = is_refused s.rows || has_refused cover

abbrev pub HasRefused : List Stretch → Type 0
HasRefused cover = has_refused cover ≡ true

-- the groups of a file: in order and within its range, and none if a row is refused
pub record AreFileGroups (columns : ℕ) (kinds : List Bool) (front : Preface) (at : ℕ) (blocks : List (List Group)) : Type 0 where
  pub is_body : IsBody columns kinds at blocks
  pub in_order : AreInOrder columns front.keys (map key_of (groups_of blocks))
  pub counted : 0 < length (groups_of blocks) → HasRefused front.cover → ⊥

-- bytes that begin with a body
pub record HasBody (shape : Shape) (at : ℕ) (bytes : List ℕ) : Type 0 where
  pub blocks : List (List Group)
  pub rest : List ℕ
  pub is_body : IsBody shape.columns shape.kinds.now at blocks
  pub is : bytes ≡ body_bytes shape.kinds.now at blocks ++ rest

-- why bytes do not go on with the groups of a file that has this front: its body is none; it has groups, and a refused row
abbrev pub HasNoGroups : Shape → Preface → ℕ → List ℕ → FileFault → Type 0
HasNoGroups shape front at bytes fault.Memory = Unit {0}
HasNoGroups shape front at bytes (fault.Body why) = IsNoBody shape.columns shape.kinds.now at bytes why
HasNoGroups shape front at bytes (fault.Group why) = ⊥
HasNoGroups shape front at bytes fault.Refused = (has : HasBody shape at bytes) × (0 < length (groups_of has.blocks)) × HasRefused front.cover
HasNoGroups shape front at bytes fault.Rows = ⊥

-- why groups of a file are not added to a map: one is out of order or out of the range; one has more than 2^50 rows then
abbrev pub AreNotAdded : Shape → GroupsByKey → Keys → List Group → FileFault → Type 0
AreNotAdded shape m range groups fault.Memory = Unit {0}
AreNotAdded shape m range groups (fault.Body why) = ⊥
AreNotAdded shape m range groups (fault.Group why) = CannotAdd shape range groups why
AreNotAdded shape m range groups fault.Refused = ⊥
AreNotAdded shape m range groups fault.Rows = AreBounded (sum_with shape m groups) → ⊥

-- why a file, of which this is the front, is not added: its body is none; a group is out of order or out of its range; it has groups, and
-- a refused row; a group has more than 2^50 rows then
abbrev pub IsNoFile : Shape → GroupsByKey → Preface → ℕ → List ℕ → FileFault → Type 0
IsNoFile shape m front at bytes fault.Memory = Unit {0}
IsNoFile shape m front at bytes (fault.Body why) = IsNoBody shape.columns shape.kinds.now at bytes why
IsNoFile shape m front at bytes (fault.Group why) = (has : HasBody shape at bytes) × CannotAdd shape front.keys (groups_of has.blocks) why
IsNoFile shape m front at bytes fault.Refused = (has : HasBody shape at bytes) × (0 < length (groups_of has.blocks)) × HasRefused front.cover
IsNoFile shape m front at bytes fault.Rows = (has : HasBody shape at bytes) × (AreBounded (sum_with shape m (groups_of has.blocks)) → ⊥)
