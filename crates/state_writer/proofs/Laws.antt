-- What is written is read: the blocks of a writer have its groups, and are those that a reader takes.
use Rattle.std.proofs.Common.{◌≡◌, ◌++◌, ◌∙◌, ℕ, Bool, false, true, List, [], ◌∷◌, All, ap, append_assoc, append-nil, cond, fold, length, nat_le, subst, sym}
use Rattle.std.proofs.lemmas.Grind.{flat_map-append}
use Rattle.std.proofs.lemmas.List.Elements.{All-cons, All-head, All-nil, All-tail}
use Rattle.state_blocks.specs.Blocks.{Group, IsBlock, IsTuple, block_bytes}
use Rattle.state_body.specs.Body.{IsBody, groups_of}
use Rattle.state_writer.specs.Writing.{Cut, Ends, IsShort, blocks_of, closed, cut, cut_more}

more_groups : (kinds : List Bool) (c : Cut) (g : Group) → groups_of (cut_more kinds c g).full ++ (cut_more kinds c g).begun ≡ (groups_of c.full ++ c.begun) ++ g ∷ []
more_groups kinds c g = go (nat_le 60_000 (length (block_bytes kinds (c.begun ++ g ∷ []))))
  where
    full : Cut
    full = record { full = c.full ++ (c.begun ++ g ∷ []) ∷ []; begun = [] }

    begun : Cut
    begun = record { full = c.full; begun = c.begun ++ g ∷ [] }

    joined : groups_of (c.full ++ (c.begun ++ g ∷ []) ∷ []) ≡ (groups_of c.full ++ c.begun) ++ g ∷ []
    joined = flat_map-append {X = List Group} {A = Group} (λ b. b) c.full ((c.begun ++ g ∷ []) ∷ []) ∙ ap (λ (gs : List Group). groups_of c.full ++ gs) (append-nil (c.begun ++ g ∷ [])) ∙ sym (append_assoc (groups_of c.full) c.begun (g ∷ []))

    go : (b : Bool) → groups_of (cond b full begun).full ++ (cond b full begun).begun ≡ (groups_of c.full ++ c.begun) ++ g ∷ []
    go true = append-nil (groups_of (c.full ++ (c.begun ++ g ∷ []) ∷ [])) ∙ joined
    go false = sym (append_assoc (groups_of c.full) c.begun (g ∷ []))

cut_from : (kinds : List Bool) (c : Cut) (groups : List Group) → groups_of (fold (cut_more kinds) c groups).full ++ (fold (cut_more kinds) c groups).begun ≡ (groups_of c.full ++ c.begun) ++ groups
cut_from kinds c [] = sym (append-nil (groups_of c.full ++ c.begun))
cut_from kinds c (g ∷ groups) = cut_from kinds (cut_more kinds c g) groups ∙ ap (λ (gs : List Group). gs ++ groups) (more_groups kinds c g) ∙ append_assoc (groups_of c.full ++ c.begun) (g ∷ []) groups

-- no group is lost
pub cut_groups : (kinds : List Bool) (groups : List Group) → groups_of (cut kinds groups).full ++ (cut kinds groups).begun ≡ groups
unfolding cut
cut_groups kinds groups = cut_from kinds (record { full = []; begun = [] }) groups

closed_groups : (full : List (List Group)) (begun : List Group) → groups_of (closed full begun) ≡ groups_of full ++ begun
closed_groups full [] = sym (append-nil (groups_of full))
closed_groups full (g ∷ begun) = flat_map-append {X = List Group} {A = Group} (λ b. b) full ((g ∷ begun) ∷ []) ∙ ap (λ (gs : List Group). groups_of full ++ gs) (append-nil (g ∷ begun))

-- the blocks of a writer have its groups, in their order
pub blocks_have : (kinds : List Bool) (groups : List Group) → groups_of (blocks_of kinds groups) ≡ groups
blocks_have kinds groups = closed_groups (cut kinds groups).full (cut kinds groups).begun ∙ cut_groups kinds groups

front_all : (P : Group → Type 0) (a b : List Group) → All P (a ++ b) → All P a
front_all P [] b all = All-nil P
front_all P (g ∷ a) b all = All-cons P g a (All-head P g (a ++ b) all) (front_all P a b (All-tail P g (a ++ b) all))

back_all : (P : Group → Type 0) (a b : List Group) → All P (a ++ b) → All P b
back_all P [] b all = all
back_all P (g ∷ a) b all = back_all P a b (All-tail P g (a ++ b) all)

each_of : (columns : ℕ) (kinds : List Bool) (blocks : List (List Group)) → All (IsTuple columns kinds) (groups_of blocks) → All (IsShort kinds) blocks → All (IsBlock columns kinds) blocks
each_of columns kinds [] all short = All-nil (IsBlock columns kinds)
each_of columns kinds (b ∷ blocks) all short =
    let here = All-head (IsShort kinds) b blocks short in
    All-cons (IsBlock columns kinds) b blocks (record { some = here.some; each = front_all (IsTuple columns kinds) b (groups_of blocks) all; short = here.short })
    (each_of columns kinds blocks (back_all (IsTuple columns kinds) b (groups_of blocks) all) (All-tail (IsShort kinds) b blocks short))

-- what is written of groups that rows can give is what a reader takes
pub body_is : (columns : ℕ) (kinds : List Bool) (start : ℕ) (groups : List Group) (written old new : List ℕ) → All (IsTuple columns kinds) groups → Ends kinds start groups written old new → IsBody columns kinds start (blocks_of kinds groups)
body_is columns kinds start groups written old new all ends = record {
  each = each_of columns kinds (blocks_of kinds groups) (subst (λ (gs : List Group). All (IsTuple columns kinds) gs) (sym (blocks_have kinds groups)) all) ends.each;
  short = ends.short;
}
