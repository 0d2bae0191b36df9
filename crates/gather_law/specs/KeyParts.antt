-- Groups that are shared out by their keys: each part of the keys has a map of its own.
use Rattle.std.specs.Prelude.{◌==◌, ℕ, List, filter, fold}
use Rattle.std.specs.FinMap as map
use Rattle.std.specs.List.{AllZip}
use Rattle.std.specs.List.Sorted.{IsPermutation}
use Rattle.partial_agg.specs.Groups.{GroupsByKey, added}
use Rattle.partial_agg.specs.Listed.{listed}
use Rattle.partial_agg.specs.declared.groups.Group.{Group}

-- the groups of a list whose keys are of a part
abbrev pub groups_in : (List ℕ → ℕ) → ℕ → List Group → List Group
groups_in part_of part groups = filter (λ group. part_of group.key == part) groups

-- a map after each group of a list, in order
abbrev pub with_listed : GroupsByKey → List Group → GroupsByKey
with_listed so_far groups = fold (λ so_far group. added so_far group.key group.state) so_far groups

-- a map after the groups of a part in each of some lists
abbrev pub with_part : (List ℕ → ℕ) → ℕ → GroupsByKey → List (List Group) → GroupsByKey
with_part part_of part so_far lists = fold (λ so_far groups. with_listed so_far (groups_in part_of part groups)) so_far lists

-- the map of a part
abbrev pub part_map : (List ℕ → ℕ) → ℕ → List (List Group) → GroupsByKey
part_map part_of part lists = with_part part_of part map.empty lists

-- lists have the groups of some maps, each list in any order
abbrev pub AreListings : List GroupsByKey → List (List Group) → Type 0
AreListings maps lists = AllZip (λ m groups. IsPermutation (listed m) groups) maps lists
