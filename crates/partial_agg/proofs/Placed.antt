-- A map whose states lie in a list: what the finite map that it means becomes where a state changes, a group comes or one goes.
use Rattle.std.proofs.Common.{◌≡◌, ◌<◌, ◌++◌, arith, ℕ, zero, suc, Bool, true, false, cond, List, [], ◌∷◌, Option, Some, None, refl, ap, sym, subst, ◌∙◌, length, get_or, set, map as map_list}
use Rattle.std.proofs.lemmas.List.{get_or-set_other, get_or-set_same, get_or_default}
use Rattle.std.proofs.lemmas.Map.Made.{lookup-map_values}
use Rattle.std.proofs.Math.ListN.{get_or-append}
use Rattle.std.proofs.Math.Seq.{get_or-append_seam}
use Rattle.std.proofs.lemmas.Option.{get_or_from_slice_get}
use Rattle.std.specs.BTreeMap.{is_at}
use Rattle.std.specs.Cmp.{eq_by_cmp_equiv}
use Rattle.std.specs.Cmp.Lexicographic.{nat_list_cmp_total}
use Rattle.std.specs.FinMap as map
use Rattle.std.specs.List.{slice_get}
use Rattle.std.specs.Prelude.{All}
use Rattle.std.specs.List.Sorted.{IsStrictlySortedBy}
use Rattle.std.specs.Option.{option_map}
use Rattle.std.specs.Ordering.{is_eq}
use Rattle.std.specs.declared.cmp.Ordering.{Ordering}
use Rattle.std.specs.declared.cmp.Ordering.TheVariants.{Less, Equal, Greater}
use Rattle.par_model.specs.declared.state.AggState.{AggState}
use Rattle.partial_agg.specs.Groups.{GroupsByKey, added, joined, key_cmp}
use Rattle.key_index.specs.Keys.{key_at}
use Rattle.partial_agg.specs.Listed.{listed_at, state_at}
use Rattle.partial_agg.specs.declared.groups.Group.{Group}
use Rattle.partial_agg.specs.Placed.{ArePlaces, Places, groups_at, place_of, placed}
use Rattle.partial_agg.specs.State.{combined, empty_state}
use Rattle.partial_agg.proofs.Maps.{entries-view, get-view, same_groups, sorted-from_ordered}

abbrev pub state_in : List AggState → ℕ → AggState
state_in states place = get_or states place empty_state

pub get-groups_at : (places : Places) (states : List AggState) (q : List ℕ) → map.get (groups_at places states) q ≡ option_map (state_in states) (place_of places q)
get-groups_at places states q = get-view (placed places states) q ∙ lookup-map_values (state_in states) (is_at (key_cmp q)) places

is_equal : (o : Ordering) → is_eq o ≡ true → o ≡ Equal
is_equal Less e = cc
is_equal Equal e = refl
is_equal Greater e = cc

pub same_key : (k q : List ℕ) → is_at (key_cmp k) q ≡ true → k ≡ q
same_key k q e = map.slice_cmp-IsAntisymmetric map.nat_cmp-IsAntisymmetric k q (is_equal (key_cmp k q) e)

pub is_itself : (k : List ℕ) → is_at (key_cmp k) k ≡ true
is_itself k = (eq_by_cmp_equiv nat_list_cmp_total).refl k

-- two states agree at each place that may be looked at
pub agree : (f g : ℕ → AggState) (o : Option ℕ) → ((place : ℕ) → o ≡ Some place → f place ≡ g place) → option_map f o ≡ option_map g o
agree f g None h = refl
agree f g (Some place) h = ap Some (h place refl)

-- the state of a key that is there changes
pub state_changed : (m : GroupsByKey) (places : Places) (states : List AggState) (k : List ℕ) (p : ℕ) (before w state : AggState)
    → groups_at places states ≡ m → ArePlaces places (length states) → place_of places k ≡ Some p → before ≡ get_or states p before → w ≡ combined before state
    → groups_at places (set states p w) ≡ added m k state
state_changed m places states k p before w state view are found stood is =
    same_groups _ _ (λ q. at q (is_at (key_cmp q) k) refl) ∙ ap (λ (m : GroupsByKey). added m k state) view
  where
    was : joined (map.get (groups_at places states) k) state ≡ w
    was =
        ap (λ o. joined o state) (get-groups_at places states k ∙ ap (option_map (state_in states)) found)
        ∙ ap (λ s. combined s state) (get_or_default states p empty_state before (are.within k p found) ∙ sym stood) ∙ sym is

    other : (q : List ℕ) → is_at (key_cmp q) k ≡ false → (p' : ℕ) → place_of places q ≡ Some p' → p' ≡ p → ⊥
    other q e p' found' same = absurd_of (sym (is_itself k) ∙ ap (λ (q : List ℕ). is_at (key_cmp q) k) (are.apart k q p found (found' ∙ ap Some same)) ∙ e)
      where
        absurd_of : true ≡ false → ⊥
        absurd_of e = cc

    at : (q : List ℕ) (b : Bool) → is_at (key_cmp q) k ≡ b → map.get (groups_at places (set states p w)) q ≡ map.get (added (groups_at places states) k state) q
    at q true e =
        get-groups_at places (set states p w) q
        ∙ ap (option_map (state_in (set states p w))) (ap (place_of places) (same_key q k e) ∙ found)
        ∙ ap Some (get_or-set_same states p w empty_state (are.within k p found) ∙ sym was)
        ∙ sym (map.get-insert nat_list_cmp_total (groups_at places states) k (joined (map.get (groups_at places states) k) state) q
        ∙ ap (λ b. cond b (Some (joined (map.get (groups_at places states) k) state)) (map.get (groups_at places states) q)) e)
    at q false e =
        get-groups_at places (set states p w) q
        ∙ agree (state_in (set states p w)) (state_in states) (place_of places q) (λ p' found'. get_or-set_other states p p' w empty_state (other q e p' found'))
        ∙ sym (get-groups_at places states q)
        ∙ sym (map.get-insert nat_list_cmp_total (groups_at places states) k (joined (map.get (groups_at places states) k) state) q
        ∙ ap (λ b. cond b (Some (joined (map.get (groups_at places states) k) state)) (map.get (groups_at places states) q)) e)

pub state_combined : (m : GroupsByKey) (places : Places) (states new : List AggState) (k : List ℕ) (p : ℕ) (state : AggState) → groups_at places states ≡ m → ArePlaces places (length states) → place_of places k ≡ Some p
    → new ≡ set states p (combined (get_or states p empty_state) state) → groups_at places new ≡ added m k state
state_combined m places states new k p state view are found is =
    let before = get_or states p empty_state in
    ap (groups_at places) is
    ∙ state_changed m places states k p before (combined before state) state view are found (get_or_default states p empty_state before (are.within k p found)) refl

-- a place is put at a key
abbrev pub Puts : Places → Places → List ℕ → Option ℕ → Type 0
Puts old new k o = (q : List ℕ) → place_of new q ≡ cond (is_at (key_cmp k) q) o (place_of old q)

-- a group comes, and its state is put behind the others
pub group_added : (m : GroupsByKey) (old new : Places) (states : List AggState) (k : List ℕ) (state : AggState)
    → groups_at old states ≡ m → ArePlaces old (length states) → place_of old k ≡ None → Puts old new k (Some (length states))
    → groups_at new (states ++ state ∷ []) ≡ added m k state
group_added m old new states k state view are absent puts =
    same_groups _ _ (λ q. at q (is_at (key_cmp k) q) refl) ∙ ap (λ (m : GroupsByKey). added m k state) view
  where
    after : List AggState
    after = states ++ state ∷ []

    was : joined (map.get (groups_at old states) k) state ≡ state
    was = ap (λ o. joined o state) (get-groups_at old states k ∙ ap (option_map (state_in states)) absent)

    right : (q : List ℕ) (b : Bool) → is_at (key_cmp k) q ≡ b → map.get (added (groups_at old states) k state) q ≡ cond b (Some state) (map.get (groups_at old states) q)
    right q b e =
        map.get-insert nat_list_cmp_total (groups_at old states) k (joined (map.get (groups_at old states) k) state) q
        ∙ ap (λ b. cond b (Some (joined (map.get (groups_at old states) k) state)) (map.get (groups_at old states) q)) (sym ((eq_by_cmp_equiv nat_list_cmp_total).symm k q) ∙ e)
        ∙ ap (λ s. cond b (Some s) (map.get (groups_at old states) q)) was

    left : (q : List ℕ) (b : Bool) → is_at (key_cmp k) q ≡ b → map.get (groups_at new after) q ≡ option_map (state_in after) (cond b (Some (length states)) (place_of old q))
    left q b e = get-groups_at new after q ∙ ap (option_map (state_in after)) (puts q ∙ ap (λ b. cond b (Some (length states)) (place_of old q)) e)

    at : (q : List ℕ) (b : Bool) → is_at (key_cmp k) q ≡ b → map.get (groups_at new after) q ≡ map.get (added (groups_at old states) k state) q
    at q true e = left q true e ∙ ap Some (get_or-append_seam states state [] empty_state) ∙ sym (right q true e)
    at q false e =
        left q false e
        ∙ agree (state_in after) (state_in states) (place_of old q) (λ place found. get_or-append states (state ∷ []) empty_state place (are.within q place found))
        ∙ sym (get-groups_at old states q)
        ∙ sym (right q false e)

-- the keys stay in order
pub keys-placed : (places : Places) (states : List AggState) → map_list (λ e. e.0) (placed places states) ≡ map_list (λ e. e.0) places
keys-placed [] states = refl
keys-placed (e ∷ places) states = ap (λ (ks : List (List ℕ)). e.0 ∷ ks) (keys-placed places states)

pub entries-groups_at : (m : GroupsByKey) (places : Places) (states : List AggState) → groups_at places states ≡ m → IsStrictlySortedBy key_cmp (map_list (λ e. e.0) places)
    → map.entries m ≡ placed places states
entries-groups_at m places states view ordered =
    ap map.entries (sym view)
    ∙ entries-view (placed places states) (sorted-from_ordered (placed places states) (subst (λ (ks : List (List ℕ)). IsStrictlySortedBy key_cmp ks) (sym (keys-placed places states)) ordered))

-- the groups at places of a table as a list
pub length-listed_at : (keys : List (List ℕ)) (states : List AggState) (places : List ℕ) → length (listed_at keys states places) ≡ length places
length-listed_at keys states [] = refl
length-listed_at keys states (p ∷ places) = ap suc (length-listed_at keys states places)

-- each state of a list of groups has eight slots, if those that it is taken from have
whole-state_in : (states : List AggState) (p : ℕ) → All (λ (state : AggState). length state.slots ≡ 8) states → length (state_in states p).slots ≡ 8
whole-state_in [] zero whole = refl
whole-state_in [] (suc p) whole = refl
whole-state_in (s ∷ states) zero whole = whole 0 s (omega arith)
whole-state_in (s ∷ states) (suc p) whole = whole-state_in states p (λ at d h. whole (suc at) d (omega arith))

pub whole-listed_at : (keys : List (List ℕ)) (states : List AggState) (places : List ℕ) → All (λ (state : AggState). length state.slots ≡ 8) states
    → (at : ℕ) (d : Group) → at < length (listed_at keys states places) → length (get_or (listed_at keys states places) at d).state.slots ≡ 8
whole-listed_at keys states [] whole at d h = absurd (omega arith)
whole-listed_at keys states (p ∷ places) whole zero d h = whole-state_in states p whole
whole-listed_at keys states (p ∷ places) whole (suc at) d h = whole-listed_at keys states places whole at d (omega arith)

some_place : (a b : ℕ) → Some a ≡ Some b → a ≡ b
some_place a b e = cc

pub listed-key : (keys : List (List ℕ)) (states : List AggState) (places : List ℕ) (at place : ℕ) (key : List ℕ) → slice_get places at ≡ Some place → slice_get keys place ≡ Some key
    → slice_get (map_list (λ (g : Group). g.key) (listed_at keys states places)) at ≡ Some key
listed-key keys states [] at place key e k = cc
listed-key keys states (p ∷ places) zero place key e k =
    ap (λ (p : ℕ). Some (key_at keys p)) (some_place p place e) ∙ ap Some (get_or_from_slice_get keys place key [] k)
listed-key keys states (p ∷ places) (suc at) place key e k = listed-key keys states places at place key e k

pub listed-state : (keys : List (List ℕ)) (states : List AggState) (places : List ℕ) (at place : ℕ) (state : AggState) → slice_get places at ≡ Some place → slice_get states place ≡ Some state
    → slice_get (map_list (λ (g : Group). g.state) (listed_at keys states places)) at ≡ Some state
listed-state keys states [] at place state e k = cc
listed-state keys states (p ∷ places) zero place state e k =
    ap (λ (p : ℕ). Some (get_or states p empty_state)) (some_place p place e) ∙ ap Some (get_or_from_slice_get states place state empty_state k)
listed-state keys states (p ∷ places) (suc at) place state e k = listed-state keys states places at place state e k

pub keys-listed_at : (keys : List (List ℕ)) (states : List AggState) (places : List ℕ) → map_list (λ (g : Group). g.key) (listed_at keys states places) ≡ map_list (key_at keys) places
keys-listed_at keys states [] = refl
keys-listed_at keys states (p ∷ places) = ap (λ (ks : List (List ℕ)). key_at keys p ∷ ks) (keys-listed_at keys states places)

pub state_at-listed : (keys : List (List ℕ)) (states : List AggState) (places : List ℕ) (at : ℕ) → at < length places → state_at (listed_at keys states places) at ≡ get_or states (get_or places at 0) empty_state
state_at-listed keys states [] at lt = absurd (omega arith)
state_at-listed keys states (p ∷ places) zero lt = refl
state_at-listed keys states (p ∷ places) (suc at) lt = state_at-listed keys states places at (omega arith)

-- a group is its key and its state
pub group_of_parts : (groups : List Group) (at : ℕ) (copy key : List ℕ) (state : AggState) → copy ≡ key → slice_get (map_list (λ (g : Group). g.key) groups) at ≡ Some key
    → slice_get (map_list (λ (g : Group). g.state) groups) at ≡ Some state → slice_get groups at ≡ Some (record { key = copy; state = state })
group_of_parts [] at copy key state c k s = cc
group_of_parts (g ∷ groups) zero copy key state c k s =
    let same_key : g.key ≡ copy = some_key g.key key k ∙ sym c in
    let same_state : g.state ≡ state = some_state g.state state s in
    λ i. Some (record { key = same_key i; state = same_state i })
  where
    some_key : (a b : List ℕ) → Some a ≡ Some b → a ≡ b
    some_key a b e = cc

    some_state : (a b : AggState) → Some a ≡ Some b → a ≡ b
    some_state a b e = cc
group_of_parts (g ∷ groups) (suc at) copy key state c k s = group_of_parts groups at copy key state c k s
