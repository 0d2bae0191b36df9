-- Lists that go on by one: the groups of participants with their parts, and the map of a part.
use Rattle.std.proofs.Common.{◌≡◌, ◌<◌, ◌+◌, ◌++◌, ◌^◌, ◌∙◌, ℕ, List, [], ◌∷◌, IfOk, Ok, Result, Some, length, map, slice_index_or, take, get_or, ap, sym, subst, arith}
use Rattle.std.specs.FinMap as fin
use Rattle.std.specs.List.{slice_get}
use Rattle.std.specs.List.Sorted.{IsPermutation}
use Rattle.std.specs.declared.alloc.AllocError.{AllocError}
use Rattle.std.proofs.lemmas.List.{get_or-map, length-map, map-append, take_more}
use Rattle.std.proofs.lemmas.Option.{get_or_from_slice_get}
use Rattle.par_model.specs.Plan.{Plan}
use Rattle.partial_agg.specs.Groups.{AreGroups, GroupsByKey}
use Rattle.partial_agg.specs.Listed.{listed}
use Rattle.partial_agg.specs.declared.groups.Group.{Group}
use Rattle.row_blocks.specs.Blocks.{Table}
use Rattle.row_blocks.proofs.Permute.{AllZip-join}
use Rattle.gather_law.specs.KeyParts.{AreListings, groups_in, part_map, with_listed}
use Rattle.gather_law.specs.Shares.{AreShared, rows_in}
use Rattle.gather_law.proofs.PartMaps.{parts_join}
use Rattle.part_run.proofs.Parting.{fold_push, no_group}
use Rattle.row_lists.specs.Parts.{part_of}
use Rattle.part_run.specs.Moving.{AreMade, lists_of}
use Rattle.part_run.specs.Parted.{AreParted}
use Rattle.part_run.specs.declared.moving.LentParts.{LentParts}

abbrev pub part_in : Group → ℕ
part_in g = part_of g.key

-- the part of one group more
pub part_next : (groups : List Group) (at : ℕ) (key : List ℕ) (found new : List ℕ) → at < length groups → slice_get (map (λ (g : Group). g.key) groups) at ≡ Some key
    → found ≡ map part_in (take at groups) → new ≡ found ++ part_of key ∷ [] → new ≡ map part_in (take (at + 1) groups)
part_next groups at key found new lt is before now =
    let k : Group → List ℕ = λ g. g.key in
    let same : (get_or groups at no_group).key ≡ key = sym (get_or-map k groups at no_group [] lt) ∙ get_or_from_slice_get (map k groups) at key [] is in
    now ∙ (λ i. before i ++ part_of (sym same i) ∷ []) ∙ sym (map-append part_in (take at groups) (get_or groups at no_group ∷ [])) ∙ ap (map part_in) (sym (take_more groups at no_group lt))

-- the part that was found of the group at a place
pub part_at : (groups : List Group) (at : ℕ) (found : List ℕ) → at < length groups → found ≡ map part_in groups → get_or found at 0 ≡ part_of (slice_index_or groups at no_group).key
part_at groups at found lt is = ap (λ (l : List ℕ). get_or l at 0) is ∙ get_or-map part_in groups at no_group 0 lt

-- the groups of one map more
pub lent_next : (maps : List GroupsByKey) (at : ℕ) (d : GroupsByKey) (lists news : List LentParts) (one : LentParts) → at < length maps → AreListings (take at maps) (lists_of lists) → IsPermutation (listed (slice_index_or maps at d)) one.groups
    → news ≡ lists ++ one ∷ [] → AreListings (take (at + 1) maps) (lists_of news)
lent_next maps at d lists news one lt before same now =
    let m = slice_index_or maps at d in
    let R : GroupsByKey → List Group → Type 0 = λ m groups. IsPermutation (listed m) groups in
    let both : AreListings (take at maps ++ m ∷ []) (lists_of lists ++ one.groups ∷ []) = AllZip-join R (take at maps) (m ∷ []) (lists_of lists) (one.groups ∷ []) before (same, tt) in
    subst (λ (ls : List (List Group)). AreListings (take (at + 1) maps) ls) (sym (ap lists_of now ∙ map-append (λ (p : LentParts). p.groups) lists (one ∷ [])))
    (subst (λ (ms : List GroupsByKey). AreListings ms (lists_of lists ++ one.groups ∷ [])) (sym (take_more maps at d lt)) both)

-- the groups of a part in one list more
pub list_next : (part : ℕ) (lists : List LentParts) (at : ℕ) (d : LentParts) (mid new : GroupsByKey) → at < length lists → mid ≡ part_map part_of part (lists_of (take at lists))
    → new ≡ with_listed mid (groups_in part_of part (slice_index_or lists at d).groups) → new ≡ part_map part_of part (lists_of (take (at + 1) lists))
list_next part lists at d mid new lt before now =
    let l = slice_index_or lists at d in
    let over : GroupsByKey → List Group → GroupsByKey = λ so_far groups. with_listed so_far (groups_in part_of part groups) in
    now ∙ ap (λ (m : GroupsByKey). over m l.groups) before
    ∙ sym (ap (part_map part_of part) (ap lists_of (take_more lists at d lt) ∙ map-append (λ (p : LentParts). p.groups) (take at lists) (l ∷ [])) ∙ fold_push over (lists_of (take at lists)) fin.empty l.groups)

-- there is a map for each part, if all were made
pub made_many : (parts : List GroupsByKey) (lists : List LentParts) (olds made : List (Result GroupsByKey AllocError)) → length olds ≡ 256 → AreMade lists olds made → map (λ (m : GroupsByKey). Ok m) parts ≡ made → length parts ≡ 256
made_many parts lists olds made long are all =
    let ok : GroupsByKey → Result GroupsByKey AllocError = λ m. Ok m in
    sym (length-map parts ok) ∙ ap (λ (l : List (Result GroupsByKey AllocError)). length l) all ∙ are.count ∙ long

-- maps that were all made are those of the parts
pub made_parted : (plan : Plan) (width : ℕ) (rows : Table) (maps parts : List GroupsByKey) (lists : List LentParts) (olds made : List (Result GroupsByKey AllocError)) → AreListings maps (lists_of lists) → length olds ≡ 256 → AreMade lists olds made
    → map (λ (m : GroupsByKey). Ok m) parts ≡ made → AreShared plan width rows maps → length rows < 2 ^ 64 → AreParted plan width rows parts
made_parted plan width rows maps parts lists olds made listings long are all shared few =
    let ok : GroupsByKey → Result GroupsByKey AllocError = λ m. Ok m in
    let many = made_many parts lists olds made long are all in
    record {
      many = many;
      accepted = shared.accepted;
      each = λ part d low.
          let here : slice_index_or made part (Ok d) ≡ Ok (slice_index_or parts part d) =
          ap (λ (l : List (Result GroupsByKey AllocError)). get_or l part (Ok d)) (sym all) ∙ get_or-map ok parts part d (Ok d) (omega (arith, many, low)) in
          let is : slice_index_or parts part d ≡ part_map part_of part (lists_of lists) = subst (λ (o : Result GroupsByKey AllocError). IfOk o (λ m. m ≡ part_map part_of part (lists_of lists))) here ((are.each part (Ok d) (omega (arith, long, low))).are) in
          subst (λ (m : GroupsByKey). AreGroups plan (rows_in plan part_of part rows) m) (sym is) (parts_join plan width part_of part rows maps (lists_of lists) shared listings few);
    }
