-- A whole file of partial states.
use Rattle.std.specs.Prelude.{◌++◌, ℕ, Bool, List, length}
use Rattle.state_blocks.specs.Blocks.{Group}
use Rattle.state_body.specs.Body.{body_bytes, groups_of}
use Rattle.state_front.specs.Front.{IsFront, front_bytes}
use Rattle.state_head.specs.Head.{Preface}
use Rattle.state_whole.specs.Sums.{AreFileGroups}

-- what it says of itself, and its groups in blocks
pub record StateFile : Type 0 where
  pub preface : Preface
  pub blocks : List (List Group)

abbrev pub tuples_in : StateFile → List Group
tuples_in f = groups_of f.blocks

unfoldable pub file_bytes : List Bool → StateFile → List ℕ
file_bytes kinds f = front_bytes f.preface ++ body_bytes kinds (length (front_bytes f.preface)) f.blocks

-- a front, and the groups of such a file
pub record IsStateFile (columns : ℕ) (kinds : List Bool) (f : StateFile) : Type 0 where
  pub is_front : IsFront f.preface
  pub are_groups : AreFileGroups columns kinds f.preface (length (front_bytes f.preface)) f.blocks
