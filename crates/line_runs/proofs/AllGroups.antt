-- The groups in the maps of all parts are those of one map of all rows, each once.
use Rattle.std.proofs.Common.{◌≡◌, ◌+◌, ◌<◌, ◌≤◌, ◌^◌, ◌++◌, ◌==◌, ◌∷◌, [], ℕ, List, ap, arith, bytes_eq, filter, length, map, refl, slice_index_or, subst}
use Rattle.std.proofs.lemmas.List.Elements.{All-contains}
use Rattle.std.specs.List.{IsDistinct, flat_map}
use Rattle.std.specs.List.Sorted.{IsPermutation}
use Rattle.par_model.specs.Plan.{Plan}
use Rattle.partial_agg.specs.Groups.{AreGroups, GroupsByKey}
use Rattle.partial_agg.specs.Listed.{listed}
use Rattle.partial_agg.specs.declared.groups.Group.{Group}
use Rattle.row_blocks.specs.Blocks.{Table}
use Rattle.gather_law.specs.KeyParts.{part_map}
use Rattle.gather_law.specs.Shares.{rows_in}
use Rattle.gather_law.proofs.PartMaps.{parts_join}
use Rattle.row_lists.specs.Parts.{part_of}
use Rattle.row_lists.proofs.Parts.{part_below}
use Rattle.part_run.specs.Parted.{AreParted}
use Rattle.part_run.proofs.Grown.{parts_share}
use Rattle.line_runs.proofs.Answering.{own_lists}
use Rattle.line_runs.proofs.Groups.{IsFrom, IsIn, all_from, all_in, distinct_from, distinct_listed, groups_of, is_listed, is_there, same_groups}
use Rattle.line_runs.proofs.Lines.{key_of_group}

-- ---- one range of all keys

abbrev pub one : List ℕ → ℕ
one key = 0

pub filter_all : {X : Type 0} (xs : List X) → filter (λ x. 0 == 0) xs ≡ xs
filter_all [] = refl
filter_all (x ∷ xs) = ap (λ l. x ∷ l) (filter_all xs)

all_of : (maps : List GroupsByKey) → groups_of one 0 maps ≡ flat_map listed maps
all_of [] = refl
all_of (m ∷ maps) = λ i. filter_all (listed m) i ++ all_of maps i

-- the map of the one range of all keys
abbrev pub whole_map : List GroupsByKey → GroupsByKey
whole_map maps = part_map one 0 (map listed maps)

-- all rows have their groups in this map, which are those of the parts' maps; no two of these have a key
pub record AreAll (plan : Plan) (rows : Table) (maps : List GroupsByKey) : Type 0 where
  pub are : AreGroups plan rows (whole_map maps)
  pub same : IsPermutation (listed (whole_map maps)) (flat_map listed maps)
  pub apart : IsDistinct bytes_eq (map key_of_group (flat_map listed maps))

pub all_groups : (plan : Plan) (width : ℕ) (rows : Table) (maps : List GroupsByKey) → length rows ≤ 2 ^ 50 → AreParted plan width rows maps → AreAll plan rows maps
all_groups plan width rows maps few parted = record {
  are = subst (λ (l : Table). AreGroups plan l whole) (filter_all rows) are;
  same = subst (IsPermutation (listed whole)) (all_of maps) same;
  apart = subst (λ (gs : List Group). IsDistinct bytes_eq (map key_of_group gs)) (all_of maps) (distinct_from plan part_of rows one 0 0 maps from_first);
}
  where
    whole : GroupsByKey
    whole = whole_map maps

    from_first : (k : ℕ) (d : GroupsByKey) → k < length maps → AreGroups plan (rows_in plan part_of (0 + k) rows) (slice_index_or maps k d)
    from_first k d lt = subst (λ (n : ℕ). AreGroups plan (rows_in plan part_of n rows) (slice_index_or maps k d)) (let e : k ≡ 0 + k = omega arith in e) (parted.each k d (omega (arith, lt, parted.many)))

    are : AreGroups plan (rows_in plan one 0 rows) whole
    are = parts_join plan width one 0 rows maps (map listed maps) (parts_share plan width rows maps parted) (own_lists maps) (omega (arith, few))

    same : IsPermutation (listed whole) (groups_of one 0 maps)
    same = same_groups (listed whole) (groups_of one 0 maps) (distinct_listed plan part_of rows whole) (distinct_from plan part_of rows one 0 0 maps from_first)
        (λ g has.
        let of = All-contains (IsIn plan one rows 0) (listed whole) g (all_in plan one rows 0 whole are) has in
        is_there plan part_of rows one 0 0 maps from_first g of.0 refl (omega arith) (omega (arith, part_below g.key, parted.many)))
        (λ g has.
        let of = All-contains (IsFrom plan part_of rows one 0 0) (groups_of one 0 maps) g (all_from plan part_of rows one 0 0 maps from_first) has in
        is_listed plan one rows 0 whole are g (of.0, refl))
