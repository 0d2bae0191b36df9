-- The groups of the tuples of files, added up, are those of all their rows.
use Rattle.std.proofs.Common.{◌≡◌, ◌<◌, ◌≤◌, ◌==◌, ◌^◌, ◌++◌, ◌∙◌, ℕ, Bool, true, false, List, [], ◌∷◌, All, ap, cond, filter, get_or, length, map as map_list, refl, subst, sym}
use Rattle.std.specs.FinMap as fin
use Rattle.std.specs.List.{AllZip}
use Rattle.std.specs.List.Sorted.{IsPermutation}
use Rattle.std.proofs.lemmas.Grind.{flat_map-append}
use Rattle.std.proofs.lemmas.List.{length-map}
use Rattle.std.proofs.lemmas.List.Elements.{All-append, All-contains, All-head, All-nil, All-cons, All-tail}
use Rattle.std.proofs.lemmas.List.Sorted.{IsPermutation-map}
use Rattle.par_model.specs.Aggregate.{rows_of, state_of_rows}
use Rattle.par_model.specs.Keep.{is_kept}
use Rattle.par_model.specs.Plan.{Plan}
use Rattle.par_model.specs.declared.plan.Item.{Item}
use Rattle.par_model.specs.declared.state.AggState.{AggState}
use Rattle.par_model.specs.declared.state.SlotState.{SlotState}
use Rattle.partial_agg.specs.Groups.{AreGroups, GroupsByKey}
use Rattle.partial_agg.specs.Listed.{listed}
use Rattle.partial_agg.specs.Rows.{IsAccepted}
use Rattle.partial_agg.specs.declared.groups.Group.{Group as MapGroup}
use Rattle.partial_agg.proofs.Refusals.{key_of_counted_fits}
use Rattle.row_blocks.specs.Blocks.{Table}
use Rattle.gather_law.specs.KeyParts.{AreListings, groups_in, with_listed, with_part}
use Rattle.gather_law.specs.Shares.{AreShared, together}
use Rattle.gather_law.proofs.PartMaps.{parts_join}
use Rattle.result_text.proofs.Occurring.{occurs, state_is}
use Rattle.result_text.proofs.Uses.{All-listed}
use Rattle.state_blocks.specs.Blocks.{Group}
use Rattle.state_head.specs.declared.cover.Stretch.{Stretch}
use Rattle.state_lanes.specs.Lanes.{item_slots, lane_slots, lanes_of}
use Rattle.state_lanes.specs.Rows.{LanesComeBack, RowsAreTold, slot_over}
use Rattle.state_lanes.specs.declared.lanes.Lane.{Lane}
use Rattle.state_load.specs.Loading.{stretches_of, sum_of}
use Rattle.state_save.specs.Saving.{tuple_of}
use Rattle.state_total.specs.Total.{IsCounted}
use Rattle.state_whole.specs.Adding.{IsShapeOf, state_of, sum_with, with_group}
use Rattle.state_whole.specs.Files.{StateFile, tuples_in}
use Rattle.state_whole.specs.declared.adding.Shape.{Shape}
use Rattle.state_law.specs.Sources.{Work, plan_in, rows_at, rows_in, width_in}
use Rattle.state_law.specs.Truth.{AreRowTuples, IsTrue}
use Rattle.state_law.proofs.FirstRows.{all_accepted}
use Rattle.state_law.proofs.Wholes.{none_refused}

map_each : (X : Type 0) (f : X → X) (xs : List X) → All (λ x. f x ≡ x) xs → map_list f xs ≡ xs
map_each X f [] all = refl
map_each X f (x ∷ xs) all =
    ap (λ (y : X). y ∷ map_list f xs) (All-head (λ x. f x ≡ x) x xs all) ∙ ap (λ (l : List X). x ∷ l) (map_each X f xs (All-tail (λ x. f x ≡ x) x xs all))

map_twice : (X Y Z : Type 0) (f : Y → Z) (g : X → Y) (xs : List X) → map_list f (map_list g xs) ≡ map_list (λ x. f (g x)) xs
map_twice X Y Z f g [] = refl
map_twice X Y Z f g (x ∷ xs) = ap (λ (l : List Z). f (g x) ∷ l) (map_twice X Y Z f g xs)

filter_all : (X : Type 0) (xs : List X) → filter (λ (x : X). 0 == 0) xs ≡ xs
filter_all X [] = refl
filter_all X (x ∷ xs) = ap (λ (l : List X). x ∷ l) (filter_all X xs)

-- the one part of all keys
abbrev one_part : List ℕ → ℕ
one_part key = 0

module _ (plan : Plan) (shape : Shape) (of : IsShapeOf plan shape) (told : RowsAreTold) (back : LanesComeBack) where
  -- ---- a tuple as a group of a map

  abbrev group_from : Group → MapGroup
  group_from t = record { key = t.key; state = state_of shape t }

  slots_back : (rows : Table) → item_slots shape.lanes.now (lane_slots shape.lanes.now shape.items.now (state_of_rows plan rows).slots) shape.items.now ≡ (state_of_rows plan rows).slots
  slots_back rows =
      let lanes = lanes_of plan.items in
      let slots = map_list (slot_over rows) lanes in
      let all = (state_of_rows plan rows).slots in
      let base : item_slots lanes (lane_slots lanes plan.items all) plan.items ≡ all =
      ap (λ (ss : List SlotState). item_slots lanes (lane_slots lanes plan.items ss) plan.items) (told plan rows)
      ∙ ap (λ (ss : List SlotState). item_slots lanes ss plan.items) (back plan.items slots (length-map lanes (slot_over rows)))
      ∙ sym (told plan rows) in
      let by_items = subst (λ (is : List Item). item_slots lanes (lane_slots lanes is all) is ≡ all) (sym of.items) base in
      subst (λ (ls : List Lane). item_slots ls (lane_slots ls shape.items.now all) shape.items.now ≡ all) (sym of.lanes) by_items

  pub group_back : (g : MapGroup) (rows : Table) → g.state ≡ state_of_rows plan rows → group_from (tuple_of shape g) ≡ g
  group_back g rows is =
      let slots = subst (λ (s : AggState). item_slots shape.lanes.now (lane_slots shape.lanes.now shape.items.now s.slots) shape.items.now ≡ s.slots) (sym is) (slots_back rows) in
      let made : List SlotState → MapGroup = λ ss. record { key = g.key; state = record { rows = g.state.rows; slots = ss } } in
      ap made slots

  listed_back : (rows : Table) (groups : GroupsByKey) → AreGroups plan rows groups → map_list group_from (map_list (tuple_of shape) (listed groups)) ≡ listed groups
  listed_back rows groups are =
      let all = All-listed plan rows groups are in
      map_twice MapGroup Group MapGroup group_from (tuple_of shape) (listed groups)
      ∙ map_each MapGroup (λ g. group_from (tuple_of shape g)) (listed groups) (λ k d lt.
      let g = get_or (listed groups) k d in
      group_back g (rows_of plan rows g.key) (state_is plan rows g.key g.state (all k d lt)))

  -- the same by another shape of the plan
  same_tuples : (other : Shape) (groups : List MapGroup) → IsShapeOf plan other → map_list (tuple_of other) groups ≡ map_list (tuple_of shape) groups
  same_tuples other groups is =
      let by : List Lane → List Item → List Group = λ ls items. map_list (λ (g : MapGroup). record { key = g.key; rows = g.state.rows; slots = lane_slots ls items g.state.slots }) groups in
      ap (λ (ls : List Lane). by ls other.items.now) (is.lanes ∙ sym of.lanes) ∙ ap (λ (items : List Item). by shape.lanes.now items) (is.items ∙ sym of.items)

  listing : (rows : Table) (tuples : List Group) (t : AreRowTuples plan rows tuples) → IsPermutation (listed t.groups) (map_list group_from tuples)
  listing rows tuples t =
      let same : IsPermutation (map_list (tuple_of shape) (listed t.groups)) tuples = subst (λ (l : List Group). IsPermutation l tuples) (same_tuples t.shape (listed t.groups) t.is_shape) t.are.same in
      subst (λ (l : List MapGroup). IsPermutation l (map_list group_from tuples)) (listed_back rows t.groups t.are_groups) (IsPermutation-map group_from (map_list (tuple_of shape) (listed t.groups)) tuples same)

  sum_listed : (m : GroupsByKey) (tuples : List Group) → sum_with shape m tuples ≡ with_listed m (groups_in one_part 0 (map_list group_from tuples))
  sum_listed m [] = refl
  sum_listed m (t ∷ tuples) = sum_listed (with_group shape m t) tuples

  -- ---- files

  abbrev pub TuplesOf : Table → StateFile → Type 0
  TuplesOf rows f = AreRowTuples plan rows (tuples_in f)

  -- the maps of some files, and their tuples as lists of groups
  record Listings (shares : List Table) (files : List StateFile) : Type 0 where
    pub maps : List GroupsByKey
    pub lists : List (List MapGroup)
    pub each : AllZip (AreGroups plan) shares maps
    pub listings : AreListings maps lists
    pub sum : (m : GroupsByKey) → sum_of shape m files ≡ with_part one_part 0 m lists

  all_listings : (shares : List Table) (files : List StateFile) → AllZip TuplesOf shares files → Listings shares files
  all_listings [] [] all = record { maps = []; lists = []; each = tt; listings = tt; sum = λ m. refl }
  all_listings [] (f ∷ files) all = absurd all
  all_listings (rows ∷ shares) [] all = absurd all
  all_listings (rows ∷ shares) (f ∷ files) all =
      let t = all.0 in
      let rest = all_listings shares files all.1 in
      let mine = map_list group_from (tuples_in f) in
      record {
        maps = t.groups ∷ rest.maps;
        lists = mine ∷ rest.lists;
        each = (t.are_groups, rest.each);
        listings = (listing rows (tuples_in f) t, rest.listings);
        sum = λ m. rest.sum (sum_with shape m (tuples_in f)) ∙ ap (λ (n : GroupsByKey). with_part one_part 0 n rest.lists) (sum_listed m (tuples_in f));
      }

  -- the sum of the tuples of files is the map of the rows of which they are, in any order
  pub sum_of_shares : (width : ℕ) (shares : List Table) (files : List StateFile) (rows : Table) → AllZip TuplesOf shares files → IsPermutation (together shares) rows → All (IsAccepted plan width) rows → length rows < 2 ^ 64
      → AreGroups plan rows (sum_of shape fin.empty files)
  sum_of_shares width shares files rows all same accepted few =
      let l = all_listings shares files all in
      let shared : AreShared plan width rows l.maps = record { shares = shares; each = l.each; accepted = accepted; same = same } in
      let joined = parts_join plan width one_part 0 rows l.maps l.lists shared l.listings few in
      let by_rows = subst (λ (t : Table). AreGroups plan t (with_part one_part 0 fin.empty l.lists)) (filter_all (List (List ℕ)) rows) joined in
      subst (AreGroups plan rows) (sym (l.sum fin.empty)) by_rows

  module _ (w : Work) where
    abbrev pub HaveTuples : StateFile → Type 0
    HaveTuples f = AreRowTuples plan (rows_in w f.preface.cover) (tuples_in f)

    rows_together : (files : List StateFile) → together (map_list (λ (f : StateFile). rows_in w f.preface.cover) files) ≡ rows_in w (stretches_of files)
    rows_together [] = refl
    rows_together (f ∷ files) =
        ap (λ (l : Table). rows_in w f.preface.cover ++ l) (rows_together files) ∙ sym (flat_map-append (λ (s : Stretch). rows_at w s.place) f.preface.cover (stretches_of files))

    each_tuples : (files : List StateFile) → All HaveTuples files → AllZip TuplesOf (map_list (λ (f : StateFile). rows_in w f.preface.cover) files) files
    each_tuples [] all = tt
    each_tuples (f ∷ files) all = (All-head HaveTuples f files all, each_tuples files (All-tail HaveTuples f files all))

    -- the sum of the tuples of files is the map of all their rows, in any order
    pub sum_is_groups : (width : ℕ) (files : List StateFile) (rows : Table) → All HaveTuples files → IsPermutation (rows_in w (stretches_of files)) rows → All (IsAccepted plan width) rows → length rows < 2 ^ 64
        → AreGroups plan rows (sum_of shape fin.empty files)
    sum_is_groups width files rows all same accepted few =
        sum_of_shares width (map_list (λ (f : StateFile). rows_in w f.preface.cover) files) files rows (each_tuples files all) (subst (λ (t : Table). IsPermutation t rows) (sym (rows_together files)) same) accepted few

-- ---- rows that are counted are accepted

pub counted_accepted : (w : Work) (cover : List Stretch) → All (IsTrue w) cover → All IsCounted cover → All (IsAccepted (plan_in w) (width_in w)) (rows_in w cover)
counted_accepted w [] all counted = All-nil (IsAccepted (plan_in w) (width_in w))
counted_accepted w (s ∷ cover) all counted =
    let is = All-head (IsTrue w) s cover all in
    All-append (IsAccepted (plan_in w) (width_in w)) (rows_at w s.place) (rows_in w cover)
    (all_accepted (plan_in w) (width_in w) (rows_at w s.place) (none_refused (plan_in w) (width_in w) (rows_at w s.place) s.rows is.are_told (All-head IsCounted s cover counted)))
    (counted_accepted w cover (All-tail (IsTrue w) s cover all) (All-tail IsCounted s cover counted))

-- ---- their keys are short

-- rows that are kept, of some that are accepted
abbrev IsKeptToo : Plan → ℕ → List (List ℕ) → Type 0
IsKeptToo plan width row = IsAccepted plan width row × (is_kept plan row ≡ true)

kept_too : (plan : Plan) (width : ℕ) (rows : Table) → All (IsAccepted plan width) rows → All (IsKeptToo plan width) (filter (is_kept plan) rows)
kept_too plan width [] all = All-nil (IsKeptToo plan width)
kept_too plan width (row ∷ rows) all =
    go (is_kept plan row) refl (All-head (IsAccepted plan width) row rows all) (filter (is_kept plan) rows) (kept_too plan width rows (All-tail (IsAccepted plan width) row rows all))
  where
    go : (b : Bool) → is_kept plan row ≡ b → IsAccepted plan width row → (kept : Table) → All (IsKeptToo plan width) kept → All (IsKeptToo plan width) (cond b (row ∷ kept) kept)
    go true is here kept more = All-cons (IsKeptToo plan width) row kept (here, is) more
    go false is here kept more = more

pub short_keys : (plan : Plan) (width : ℕ) (rows : Table) (m : GroupsByKey) → All (IsAccepted plan width) rows → AreGroups plan rows m → All (λ (g : MapGroup). length g.key ≤ 248) (listed m)
short_keys plan width rows m accepted are k d lt =
    let g = get_or (listed m) k d in
    let row = occurs plan rows g.key g.state (All-listed plan rows m are k d lt) in
    let is = All-contains (IsKeptToo plan width) (filter (is_kept plan) rows) row.0 (kept_too plan width rows accepted) row.1 in
    subst (λ (key : List ℕ). length key ≤ 248) row.2 (key_of_counted_fits plan width row.0 is.0 is.1)
