-- One block is taken in: what is known of it.
use Rattle.std.proofs.Common.{◌≡◌, ◌<◌, ◌≤◌, ◌^◌, ◌++◌, ◌∙◌, ℕ, Bool, List, [], ◌∷◌, All, ap, arith, length, subst, sym}
use Rattle.std.specs.List.{flat_map}
use Rattle.std.proofs.lemmas.List.Elements.{All-head}
use Rattle.state_blocks.specs.Blocks.{Group, IsTuple, block_bytes, first_key, tuple_bytes}
use Rattle.state_body.specs.Body.{IsIndex, Takes}
use Rattle.state_body.specs.declared.index.Index.{Index}
use Rattle.state_body.proofs.Bodies.{has_first}

-- a block that is read has a first group, so one is found
pub first_is : (columns : ℕ) (kinds : List Bool) (block : List Group) (part : List ℕ) → part ≡ block_bytes kinds block → All (IsTuple columns kinds) block → 0 < length part
    → ((g : Group) (rest : List ℕ) → IsTuple columns kinds g → part ≡ tuple_bytes kinds g ++ rest → ⊥) → ⊥
first_is columns kinds block part e all some none =
    let f = has_first kinds block part e some in
    none f.g (flat_map (tuple_bytes kinds) f.later) (All-head (IsTuple columns kinds) f.g f.later (subst (λ (gs : List Group). All (IsTuple columns kinds) gs) f.is all)) f.begins

-- and its key is that of the block
pub key_is : (columns : ℕ) (kinds : List Bool) (block : List Group) (part key : List ℕ) → part ≡ block_bytes kinds block → All (IsTuple columns kinds) block → 0 < length part
    → ((g : Group) (rest : List ℕ) → IsTuple columns kinds g → part ≡ tuple_bytes kinds g ++ rest → key ≡ g.key) → key ≡ first_key block
key_is columns kinds block part key e all some found =
    let f = has_first kinds block part e some in
    found f.g (flat_map (tuple_bytes kinds) f.later) (All-head (IsTuple columns kinds) f.g f.later (subst (λ (gs : List Group). All (IsTuple columns kinds) gs) f.is all)) f.begins
    ∙ sym (ap first_key f.is)

some_groups : (kinds : List Bool) (block : List Group) (part : List ℕ) → part ≡ block_bytes kinds block → 0 < length part → 0 < length block
some_groups kinds block part e some =
    let f = has_first kinds block part e some in
    omega (arith, ap length f.is)

pub takes : (columns : ℕ) (kinds : List Bool) (block : List Group) (part key : List ℕ) (groups : ℕ) (old new : Index) → part ≡ block_bytes kinds block → All (IsTuple columns kinds) block → 0 < length part → length part ≤ 2 ^ 20
    → ((b : List Group) → All (IsTuple columns kinds) b → part ≡ block_bytes kinds b → groups ≡ length b)
    → ((g : Group) (rest : List ℕ) → IsTuple columns kinds g → part ≡ tuple_bytes kinds g ++ rest → key ≡ g.key)
    → ((start : ℕ) (blocks : List (List Group)) (b : List Group) → IsIndex kinds start blocks old → key ≡ first_key b → groups ≡ length b → length part ≡ length (block_bytes kinds b) → IsIndex kinds start (blocks ++ b ∷ []) new)
    → Takes columns kinds part old new
takes columns kinds block part key groups old new e all some short count found add = record {
  block = block;
  is = e;
  is_block = record { some = some_groups kinds block part e some; each = all; short = subst (λ (bs : List ℕ). length bs ≤ 2 ^ 20) e short };
  known = λ b is f start blocks index. add start blocks b index (key_is columns kinds b part key f is.each some found) (count b is.each f) (ap length f);
}
