-- What a leader puts into its map: blocks of rows, and groups that workers sent.
use Rattle.std.specs.Prelude.{ℕ, List, [], ◌∷◌, fold}
use Rattle.std.specs.FinMap as map
use Rattle.par_model.specs.Plan.{Plan}
use Rattle.partial_agg.specs.Groups.{GroupsByKey, added, with_rows}
use Rattle.row_blocks.specs.Blocks.{Table, block_rows}
use Rattle.gather_law.specs.Tuples.{Group}

-- one of these parts
pub data Part : Type 0 where
  Block : ℕ → Part
  Received : Group → Part

-- the map after a part
abbrev pub with_part : Plan → Table → GroupsByKey → Part → GroupsByKey
with_part plan records groups (Block b) = with_rows plan groups (block_rows records b)
with_part plan records groups (Received group) = added groups group.0 group.1

-- the map after some parts, in order
abbrev pub after : Plan → Table → List Part → GroupsByKey
after plan records parts = fold (with_part plan records) map.empty parts

-- the map after some groups, in order
abbrev pub with_all : GroupsByKey → List Group → GroupsByKey
with_all groups more = fold (λ so_far group. added so_far group.0 group.1) groups more

-- the blocks among parts, in order
abbrev pub blocks_in : List Part → List ℕ
blocks_in [] = []
blocks_in (Block b ∷ parts) = b ∷ blocks_in parts
blocks_in (Received group ∷ parts) = blocks_in parts

-- the groups among parts, in order
abbrev pub received_in : List Part → List Group
received_in [] = []
received_in (Block b ∷ parts) = received_in parts
received_in (Received group ∷ parts) = group ∷ received_in parts
