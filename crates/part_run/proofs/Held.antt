-- Parts that begin, and parts whose waiting rows were grouped.
use Rattle.std.proofs.Common.{◌≡◌, ◌<◌, ◌+◌, ◌++◌, ◌∙◌, ℕ, zero, suc, false, List, [], ◌∷◌, All, Some, drop, get_or, length, map, replicate, slice_get, take, slice_index_or, refl, ap, sym, subst, arith, append-nil, length-append}
use Rattle.std.specs.List.{AllZip}
use Rattle.std.specs.List.Sorted.{IsPermutation}
use Rattle.std.proofs.lemmas.List.{drop_all, get_or-map, take_all, take_more}
use Rattle.std.proofs.lemmas.List.Concat.{flat_map-append}
use Rattle.std.proofs.lemmas.List.Sums.{fold-append}
use Rattle.std.proofs.lemmas.Option.{get_or_from_slice_get}
use Rattle.std.proofs.lemmas.List.Sorted.{All-permutation, IsPermutation-refl, IsPermutation-sym, length_permutation}
use Rattle.par_model.specs.Plan.{Plan}
use Rattle.partial_agg.specs.Groups.{GroupsByKey, added, with_rows}
use Rattle.partial_agg.specs.Rows.{IsAccepted}
use Rattle.partial_agg.specs.Values.{values_state}
use Rattle.row_blocks.specs.Blocks.{Table}
use Rattle.row_blocks.proofs.Elements.{All-apart}
use Rattle.gather_law.specs.Shares.{rows_in, together}
use Rattle.row_lists.specs.Carried.{Carried}
use Rattle.row_lists.specs.Parts.{part_of}
use Rattle.part_run.specs.Carrying.{AreSpread, no_rows, waiting_for, with_carried}
use Rattle.part_run.specs.Held.{HeldParts}
use Rattle.part_run.specs.Parted.{AreParted}
use Rattle.part_run.specs.Waiting.{GroupsAll, HaveRows, HaveWaiting, LackNone, groups_in}
use Rattle.part_run.specs.declared.parts.PartMap.{PartMap}
use Rattle.part_run.proofs.ByPart.{carried_adds, waiting_is}
use Rattle.part_run.proofs.Grown.{fine_in, parted_grow, parts_any_order}

-- a vector that was lent and came back as long as it was
pub whole_again : {X : Type 0} (n : ℕ) (olds news : List X) → n ≡ length olds → length news ≡ length olds → take n (news ++ drop (length news) olds) ≡ news
whole_again n olds news is long =
    let rest : drop (length news) olds ≡ [] = drop_all (length news) olds (omega (arith, long)) in
    (λ i. take n (news ++ rest i)) ∙ ap (take n) (append-nil news) ∙ take_all n news (omega (arith, is, long))

-- ---- no rows that wait

abbrev pub emptied : List (List Carried) → List (List Carried)
emptied lists = no_rows

pub all_emptied : (lists : List (List (List Carried))) → map emptied lists ≡ replicate (length lists) no_rows
all_emptied [] = refl
all_emptied (one ∷ lists) = ap (λ (ls : List (List (List Carried))). no_rows ∷ ls) (all_emptied lists)

pub one_more_empty : (count : ℕ) → replicate count no_rows ++ no_rows ∷ [] ≡ replicate (count + 1) no_rows
one_more_empty zero = refl
one_more_empty (suc count) = ap (λ (ls : List (List (List Carried))). no_rows ∷ ls) (one_more_empty count) ∙ ap (λ n. replicate n no_rows) (let e : suc (count + 1) ≡ suc count + 1 = omega arith in e)

none_together : (count : ℕ) → together (replicate count []) ≡ []
none_together zero = refl
none_together (suc count) = none_together count

none_spread : (plan : Plan) (count : ℕ) → AllZip (AreSpread plan) (replicate count []) (replicate count no_rows)
none_spread plan zero = tt
none_spread plan (suc count) = (refl, none_spread plan count)

-- parts whose lists are empty have the rows of their maps
pub all_in_maps : (plan : Plan) (width count : ℕ) (rows : Table) (p : HeldParts) → AreParted plan width rows p.maps → p.lists ≡ replicate count no_rows → HaveRows plan width rows p
all_in_maps plan width count rows p are none = record {
  taken = rows;
  shares = replicate count [];
  maps = are;
  lists = subst (λ (ls : List (List (List Carried))). AllZip (AreSpread plan) (replicate count []) ls) (sym none) (none_spread plan count);
  accepted = are.accepted;
  same = subst (λ (l : Table). IsPermutation (rows ++ l) rows) (sym (none_together count)) (subst (λ (l : Table). IsPermutation l rows) (sym (append-nil rows)) (IsPermutation-refl rows));
}

-- ---- rows that waited

-- what was added to each map, if there was memory for all
pub each_grouped : (lists : List (List (List Carried))) (olds news : List PartMap) → length olds ≡ 256 → HaveWaiting lists olds news → LackNone news
    → (part : ℕ) (d : GroupsByKey) → part < 256 → slice_index_or (groups_in news) part d ≡ with_carried (slice_index_or (groups_in olds) part d) (waiting_for part lists)
each_grouped lists olds news long done none part d low =
    let x : PartMap = record { groups = d; lacks = false } in
    let g : PartMap → GroupsByKey = λ m. m.groups in
    let there : part < length olds = omega (arith, long, low) in
    let here : part < length news = omega (arith, done.count, there) in
    get_or-map g news part x d here ∙ (done.each part x there).added (none part x here)
    ∙ ap (λ (m : GroupsByKey). with_carried m (waiting_for part lists)) (sym (get_or-map g olds part x d there))

abbrev step : GroupsByKey → Carried → GroupsByKey
step so_far row = added so_far row.key (values_state row.values)

-- the rows of one participant more
pub waiting_next : (part at : ℕ) (lists : List (List (List Carried))) (one : List (List Carried)) (list : List Carried) (start mid new : GroupsByKey) → at < length lists → one ≡ get_or lists at one → slice_get one part ≡ Some list
    → mid ≡ with_carried start (waiting_for part (take at lists)) → new ≡ with_carried mid list → new ≡ with_carried start (waiting_for part (take (at + 1) lists))
waiting_next part at lists one list start mid new lt there is before now =
    let front = waiting_for part (take at lists) in
    let more : waiting_for part (take (at + 1) lists) ≡ front ++ list =
    ap (waiting_for part) (take_more lists at one lt ∙ ap (λ (x : List (List Carried)). take at lists ++ x ∷ []) (sym there))
    ∙ flat_map-append (λ (l : List (List Carried)). get_or l part []) (take at lists) (one ∷ [])
    ∙ ap (λ (l : List Carried). front ++ l) (append-nil (get_or one part []) ∙ get_or_from_slice_get one part list [] is) in
    now ∙ ap (λ (m : GroupsByKey). with_carried m list) before ∙ sym (ap (with_carried start) more ∙ fold-append step start front list)

-- then the maps are those of all rows
pub all_grouped : (p : HeldParts) (news : List GroupsByKey) → length news ≡ 256
    → ((part : ℕ) (d : GroupsByKey) → part < 256 → slice_index_or news part d ≡ with_carried (slice_index_or p.maps part d) (waiting_for part p.lists)) → GroupsAll p news
all_grouped p news many each = λ plan width rows has few.
    let all = together has.shares in
    let size = length_permutation (has.taken ++ all) rows has.same in
    let long = length-append has.taken all in
    let both : All (IsAccepted plan width) (has.taken ++ all) = All-permutation (IsAccepted plan width) rows (has.taken ++ all) (IsPermutation-sym (has.taken ++ all) rows has.same) has.accepted in
    let fine : All (IsAccepted plan width) all = (All-apart (IsAccepted plan width) has.taken all both).1 in
    let now : (part : ℕ) (d : GroupsByKey) → part < 256 → slice_index_or news part d ≡ with_rows plan (slice_index_or p.maps part d) (rows_in plan part_of part all) = λ part d low.
    each part d low ∙ ap (with_carried (slice_index_or p.maps part d)) (waiting_is plan part low has.shares p.lists has.lists)
    ∙ carried_adds plan width (rows_in plan part_of part all) (slice_index_or p.maps part d) (fine_in plan width part all fine) in
    parts_any_order plan width (has.taken ++ all) rows news has.same (omega (arith, size, few))
    (parted_grow plan width has.taken all p.maps news has.maps fine (omega (arith, size, long, few)) many now)
