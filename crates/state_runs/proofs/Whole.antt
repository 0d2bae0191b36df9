-- One map with the groups of all maps.
use Rattle.std.proofs.Common.{◌≡◌, ◌≤◌, ◌^◌, ◌++◌, ◌∷◌, ◌∙◌, [], ℕ, List, ap, append-nil, arith, bytes_eq, length, length-append, map, refl, subst, sym}
use Rattle.std.specs.FinMap as finite
use Rattle.std.proofs.lemmas.List.Sorted.{IsPermutation-refl}
use Rattle.std.proofs.lemmas.List.Sums.{fold-append}
use Rattle.std.proofs.lemmas.Simd.{map-map}
use Rattle.std.specs.List.{IsDistinct}
use Rattle.std.specs.List.Sorted.{IsPermutation}
use Rattle.gather_law.specs.KeyParts.{with_listed, with_part}
use Rattle.line_runs.proofs.AllGroups.{all_groups, filter_all, one, whole_map}
use Rattle.line_runs.proofs.Lines.{key_of_group}
use Rattle.par_model.specs.Plan.{Plan}
use Rattle.par_model.specs.declared.state.AggState.{AggState}
use Rattle.part_run.specs.Parted.{AreParted}
use Rattle.partial_agg.specs.Groups.{AreGroups, GroupsByKey, added, key_cmp}
use Rattle.partial_agg.specs.Listed.{group, listed}
use Rattle.partial_agg.specs.declared.groups.Group.{Group}
use Rattle.partial_agg.proofs.Entries.{IsDistinct-keys}
use Rattle.row_blocks.specs.Blocks.{Table}
use Rattle.state_runs.specs.Runs.{AreApart, groups_in}
use Rattle.state_runs.specs.Whole.{AreWhole, whole_of}

-- ---- one map

nil_of_length : {A : Type 0} (xs : List A) → length xs ≡ 0 → xs ≡ []
nil_of_length [] e = refl
nil_of_length (x ∷ xs) e = absurd (omega (arith, e))

-- an empty map lists none
none_listed : listed finite.empty ≡ []
none_listed =
    let no : finite.entries (finite.empty {K = List ℕ} {X = AggState} {R = key_cmp}) ≡ [] = nil_of_length (finite.entries finite.empty) (sym (finite.len-entries finite.empty) ∙ finite.len-empty key_cmp AggState) in
    ap (map group) no

pub none_whole : (maps : List GroupsByKey) → maps ≡ [] → AreWhole maps
unfolding IsDistinct
none_whole maps e = subst AreWhole (sym e) (record { apart = tt; same = subst (λ (gs : List Group). IsPermutation gs []) (sym none_listed) (IsPermutation-refl []) })

distinct_of : (m : GroupsByKey) → IsDistinct bytes_eq (map key_of_group (listed m))
distinct_of m = subst (IsDistinct bytes_eq) (sym (map-map key_of_group group (finite.entries m))) (IsDistinct-keys m)

pub one_whole : (maps : List GroupsByKey) (m : GroupsByKey) → maps ≡ m ∷ [] → AreWhole maps
one_whole maps m e = subst AreWhole (sym e) (record {
  apart = subst (λ (gs : List Group). IsDistinct bytes_eq (map key_of_group gs)) all (distinct_of m);
  same = subst (IsPermutation (listed m)) all (IsPermutation-refl (listed m));
})
  where
    all : listed m ≡ groups_in (m ∷ [])
    all = sym (append-nil (listed m))

-- ---- the maps of parts

part_is : (so_far : GroupsByKey) (maps : List GroupsByKey) → with_part one 0 so_far (map listed maps) ≡ with_listed so_far (groups_in maps)
part_is so_far [] = refl
part_is so_far (m ∷ maps) =
    ap (λ (gs : List Group). with_part one 0 (with_listed so_far gs) (map listed maps)) (filter_all (listed m)) ∙ part_is (with_listed so_far (listed m)) maps
    ∙ sym (fold-append (λ (so_far : GroupsByKey) (g : Group). added so_far g.key g.state) so_far (listed m) (groups_in maps))

whole_is : (maps : List GroupsByKey) → length maps ≡ 256 → whole_map maps ≡ whole_of maps
whole_is [] many = absurd (omega (arith, many))
whole_is (m ∷ []) many = absurd (omega (arith, many))
whole_is (m ∷ n ∷ maps) many = part_is finite.empty (m ∷ n ∷ maps)

pub parts_whole : (plan : Plan) (width : ℕ) (rows : Table) (maps : List GroupsByKey) → length rows ≤ 2 ^ 50 → AreParted plan width rows maps → AreWhole maps
parts_whole plan width rows maps few parted =
    let all = all_groups plan width rows maps few parted in
    record { apart = all.apart; same = subst (λ (m : GroupsByKey). IsPermutation (listed m) (groups_in maps)) (whole_is maps parted.many) all.same }

pub parts_groups : (plan : Plan) (width : ℕ) (rows : Table) (maps : List GroupsByKey) → length rows ≤ 2 ^ 50 → AreParted plan width rows maps → AreGroups plan rows (whole_of maps)
parts_groups plan width rows maps few parted = subst (AreGroups plan rows) (whole_is maps parted.many) (all_groups plan width rows maps few parted).are

-- ---- of all groups

-- they are in the only map
pub sole : (maps : List GroupsByKey) (m all : GroupsByKey) → whole_of maps ≡ all → maps ≡ m ∷ [] → listed m ≡ listed all
sole maps m all view e = ap listed (sym (ap whole_of e) ∙ view)

-- or in all maps
pub others_same : (maps others : List GroupsByKey) (all : GroupsByKey) → whole_of maps ≡ all → AreWhole maps → others ≡ maps → IsPermutation (listed all) (groups_in others)
others_same maps others all view whole e = subst (λ (ms : List GroupsByKey). IsPermutation (listed all) (groups_in ms)) (sym e) (subst (λ (m : GroupsByKey). IsPermutation (listed m) (groups_in maps)) view whole.same)

pub apart_of : (maps others : List GroupsByKey) → AreWhole maps → others ≡ maps → AreApart others
apart_of maps others whole e = subst AreApart (sym e) whole.apart

-- what was the last of one was the only one
pub pop_one : (old new : List GroupsByKey) (m : GroupsByKey) → old ≡ new ++ m ∷ [] → length old ≡ 1 → old ≡ m ∷ []
pop_one old [] m e one = e
pop_one old (n ∷ new) m e one = absurd (omega (arith, ap (length {A = GroupsByKey}) e, one, length-append new (m ∷ [])))
