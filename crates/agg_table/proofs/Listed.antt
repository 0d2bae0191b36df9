-- What a map of groups has after the entries of a map of cells were added to it, each once.
use Rattle.std.proofs.Common.{◌≡◌, ◌≢◌, ◌≤◌, ◌+◌, ◌⊎◌, inl, inr, ℕ, Bool, true, false, cond, List, [], ◌∷◌, All, Option, Some, None, drop, get_or, length, map as map_list, is_some, refl, ap, sym, subst, ◌∙◌, ◌++◌, arith}
use Rattle.std.specs.Cmp.Lexicographic.{nat_list_cmp_total, slice_cmp}
use Rattle.std.specs.FinMap as fin
use Rattle.std.specs.List.{AllByRecursion}
use Rattle.std.specs.Ordering.{nat_cmp}
use Rattle.std.proofs.lemmas.List.{map-append}
use Rattle.std.proofs.lemmas.List.Elements.{All-from_recursion, All-nil, All-push, recursion_from_All}
use Rattle.std.proofs.lemmas.List.Sums.{fold-append}
use Rattle.agg_cell.specs.declared.cell.AggObject.{AggObject}
use Rattle.dshash_core.specs.Cells.{KeyMap}
use Rattle.dshash_core.specs.Key.{IsPackedKey, packed_key}
use Rattle.dshash_core.specs.Listing.{pairs_of}
use Rattle.dshash_core.specs.Outcome.{ListsAll}
use Rattle.dshash_core.specs.declared.entries.Entry.{Entry}
use Rattle.dshash_core.proofs.Keys.{packed_head}
use Rattle.dshash_core.proofs.Maps.{keys_same_or_not, other_key, same_key}
use Rattle.par_model.specs.declared.state.AggState.{AggState}
use Rattle.partial_agg.specs.Groups.{GroupsByKey, added, joined}
use Rattle.partial_agg.specs.Laws.{both}
use Rattle.partial_agg.proofs.Adding.{both-none, both-some}
use Rattle.rel_pointer.specs.Bytes.{AllBytes, packed_words}
use Rattle.rel_pointer.proofs.Words.{packed_words-same}
use Rattle.agg_table.specs.Calls.{Group, IsKeyed, called}
use Rattle.agg_table.specs.Drained.{AddsCells, AddsEntries, ArePacked, with_each}

-- ---- keys

-- a packed key is that of one byte string
pub packed_once : (a b : List ℕ) → AllBytes a → AllBytes b → length a ≤ 248 → packed_key a ≡ packed_key b → a ≡ b
unfolding packed_key
packed_once a b of_a of_b short same =
    let long : length a ≡ length b = sym (packed_head (packed_key a) a refl) ∙ ap (λ (l : List ℕ). get_or l 0 0) same ∙ packed_head (packed_key b) b refl in
    let words : packed_words 31 a ≡ packed_words 31 b = ap (λ (l : List ℕ). drop 1 l) same in
    packed_words-same 31 a b of_a of_b long (omega (arith, short)) words

-- ---- a map after one more entry

put_same : (m : KeyMap AggState) (k : List ℕ) (v : AggState) (q : List ℕ) → q ≡ k → fin.get (fin.insert m k v) q ≡ Some v
put_same m k v q same = fin.get-insert nat_list_cmp_total m k v q ∙ ap (λ b. cond {A = Option AggState} b (Some v) (fin.get m q)) (same_key q k same)

put_other : (m : KeyMap AggState) (k : List ℕ) (v : AggState) (q : List ℕ) → q ≢ k → fin.get (fin.insert m k v) q ≡ fin.get m q
put_other m k v q differ = fin.get-insert nat_list_cmp_total m k v q ∙ ap (λ b. cond {A = Option AggState} b (Some v) (fin.get m q)) (other_key q k differ)

-- ---- entries, each of a key of its own

abbrev pub cells_of : List (List ℕ × AggState) → KeyMap AggState
cells_of es = fin.from_entries es

few : (es : List (List ℕ × AggState)) → fin.len (cells_of es) ≤ length es
few [] = let e = fin.len-empty (slice_cmp nat_cmp) AggState in omega (arith, e)
few (e ∷ es) = by (fin.contains_key (cells_of es) e.0) (fin.len-insert nat_list_cmp_total (cells_of es) e.0 e.1) (few es)
  where
    by : (b : Bool) → fin.len (cells_of (e ∷ es)) ≡ cond {A = ℕ} b (fin.len (cells_of es)) (fin.len (cells_of es) + 1) → fin.len (cells_of es) ≤ length es → fin.len (cells_of (e ∷ es)) ≤ length (e ∷ es)
    by true l h = omega (arith, l, h)
    by false l h = omega (arith, l, h)

none_of : (o : Option AggState) → is_some o ≡ false → o ≡ None
none_of None h = refl
none_of (Some s) h = absurd (cc)

-- where as many keys stand as there are entries, the first one's is not among the others'
record IsNew (e : List ℕ × AggState) (es : List (List ℕ × AggState)) : Type 0 where
  none : fin.get (cells_of es) e.0 ≡ None
  rest : length es ≡ fin.len (cells_of es)

is_new : (e : List ℕ × AggState) (es : List (List ℕ × AggState)) → length (e ∷ es) ≡ fin.len (cells_of (e ∷ es)) → IsNew e es
is_new e es once = by (fin.contains_key (cells_of es) e.0) refl (fin.len-insert nat_list_cmp_total (cells_of es) e.0 e.1)
  where
    by : (b : Bool) → fin.contains_key (cells_of es) e.0 ≡ b → fin.len (cells_of (e ∷ es)) ≡ cond {A = ℕ} (fin.contains_key (cells_of es) e.0) (fin.len (cells_of es)) (fin.len (cells_of es) + 1) → IsNew e es
    by true there l =
        let less : fin.len (cells_of (e ∷ es)) ≡ fin.len (cells_of es) = l ∙ ap (λ b. cond {A = ℕ} b (fin.len (cells_of es)) (fin.len (cells_of es) + 1)) there in
        absurd (omega (arith, less, few es, once))
    by false new l =
        let more : fin.len (cells_of (e ∷ es)) ≡ fin.len (cells_of es) + 1 = l ∙ ap (λ b. cond {A = ℕ} b (fin.len (cells_of es)) (fin.len (cells_of es) + 1)) new in
        record { none = none_of (fin.get (cells_of es) e.0) new; rest = omega (arith, more, once) }

-- each entry's key stands in the map of all
pub standing : (es : List (List ℕ × AggState)) → AllByRecursion (λ (e : List ℕ × AggState). fin.contains_key (cells_of es) e.0 ≡ true) es
standing [] = tt
standing (e ∷ es) = (ap is_some (put_same (cells_of es) e.0 e.1 e.0 refl), others es (standing es))
  where
    others : (fs : List (List ℕ × AggState)) → AllByRecursion (λ (f : List ℕ × AggState). fin.contains_key (cells_of es) f.0 ≡ true) fs → AllByRecursion (λ (f : List ℕ × AggState). fin.contains_key (cells_of (e ∷ es)) f.0 ≡ true) fs
    others [] h = tt
    others (f ∷ fs) h = (by (keys_same_or_not f.0 e.0), others fs h.1)
      where
        by : (f.0 ≡ e.0) ⊎ (f.0 ≢ e.0) → fin.contains_key (cells_of (e ∷ es)) f.0 ≡ true
        by (inl same) = ap is_some (put_same (cells_of es) e.0 e.1 f.0 same)
        by (inr differ) = ap is_some (put_other (cells_of es) e.0 e.1 f.0 differ) ∙ h.0

-- ---- groups that are added, each once

abbrev standing_of : List Group → KeyMap AggState
standing_of gs = cells_of (map_list called gs)

each_added : (gs : List Group) → AllByRecursion IsKeyed gs → length (map_list called gs) ≡ fin.len (standing_of gs) → (g : GroupsByKey) (key : List ℕ) → AllBytes key → length key ≤ 248
    → fin.get (with_each g gs) key ≡ both (fin.get g key) (fin.get (standing_of gs) (packed_key key))
each_added [] keyed once g key bytes short = sym (ap (both (fin.get g key)) (fin.get-empty (slice_cmp nat_cmp) (packed_key key)) ∙ both-none (fin.get g key))
each_added (x ∷ gs) keyed once g key bytes short =
    each_added gs keyed.1 new.rest (added g x.0 x.1) key bytes short ∙ by (keys_same_or_not key x.0)
  where
    new : IsNew (called x) (map_list called gs)
    new = is_new (called x) (map_list called gs) once

    by : (key ≡ x.0) ⊎ (key ≢ x.0) → both (fin.get (added g x.0 x.1) key) (fin.get (standing_of gs) (packed_key key)) ≡ both (fin.get g key) (fin.get (standing_of (x ∷ gs)) (packed_key key))
    by (inl same) =
        let packed : packed_key key ≡ packed_key x.0 = ap (λ (k : List ℕ). packed_key k) same in
        let none : fin.get (standing_of gs) (packed_key key) ≡ None = ap (λ (k : List ℕ). fin.get (standing_of gs) k) packed ∙ new.none in
        let here : fin.get (standing_of (x ∷ gs)) (packed_key key) ≡ Some x.1 = put_same (standing_of gs) (packed_key x.0) x.1 (packed_key key) packed in
        ap (λ (o : Option AggState). both o (fin.get (standing_of gs) (packed_key key))) (put_same g x.0 (joined (fin.get g x.0) x.1) key same)
        ∙ ap (both (Some (joined (fin.get g x.0) x.1))) none
        ∙ ap (λ (k : List ℕ). Some (joined (fin.get g k) x.1)) (sym same)
        ∙ sym (both-some (fin.get g key) x.1)
        ∙ ap (both (fin.get g key)) (sym here)
    by (inr differ) =
        let apart : packed_key key ≢ packed_key x.0 = λ e. differ (packed_once key x.0 bytes keyed.0.bytes short e) in
        ap (λ (o : Option AggState). both o (fin.get (standing_of gs) (packed_key key))) (put_other g x.0 (joined (fin.get g x.0) x.1) key differ)
        ∙ ap (both (fin.get g key)) (sym (put_other (standing_of gs) (packed_key x.0) x.1 (packed_key key) apart))

rest_kept : (gs : List Group) → AllByRecursion IsKeyed gs → (g : GroupsByKey) (key : List ℕ) → (AllBytes key → length key ≤ 248 → fin.get (standing_of gs) (packed_key key) ≡ None)
    → fin.get (with_each g gs) key ≡ fin.get g key
rest_kept [] keyed g key none = refl
rest_kept (x ∷ gs) keyed g key none =
    rest_kept gs keyed.1 (added g x.0 x.1) key
    (λ bytes short. sym (put_other (standing_of gs) (packed_key x.0) x.1 (packed_key key) (λ e. differ (packed_once key x.0 bytes keyed.0.bytes short e))) ∙ none bytes short)
    ∙ put_other g x.0 (joined (fin.get g x.0) x.1) key differ
  where
    differ : key ≢ x.0
    differ same =
        let is : fin.get (standing_of (x ∷ gs)) (packed_key key) ≡ Some x.1 = put_same (standing_of gs) (packed_key x.0) x.1 (packed_key key) (ap (λ (k : List ℕ). packed_key k) same) in
        let no : ◌≡◌ {A = Option AggState} None (Some x.1) = sym (none (subst AllBytes (sym same) keyed.0.bytes) (subst (λ (k : List ℕ). length k ≤ 248) (sym same) keyed.0.short)) ∙ is in
        absurd (cc)

-- entries that list a map of cells, each once
pub listed_added : (cells : KeyMap AggState) (entries : List (List ℕ × AggState)) (g h : GroupsByKey) → ListsAll cells entries → AddsEntries entries g h → AddsCells cells g h
listed_added cells entries g h lists adds =
    let gs = adds.groups in
    let keyed = recursion_from_All IsKeyed gs adds.keyed in
    let is : standing_of gs ≡ cells = ap (λ (es : List (List ℕ × AggState)). cells_of es) (sym adds.are) ∙ lists.all in
    let once : length (map_list called gs) ≡ fin.len (standing_of gs) = ap length (sym adds.are) ∙ lists.once ∙ ap (λ (m : KeyMap AggState). fin.len m) (sym is) in
    record {
      each = λ key bytes short. ap (λ (m : GroupsByKey). fin.get m key) adds.adds ∙ each_added gs keyed once g key bytes short ∙ ap (λ (m : KeyMap AggState). both (fin.get g key) (fin.get m (packed_key key))) is;
      rest = λ key none. ap (λ (m : GroupsByKey). fin.get m key) adds.adds ∙ rest_kept gs keyed g key (λ bytes short. ap (λ (m : KeyMap AggState). fin.get m (packed_key key)) is ∙ none bytes short);
    }

-- ---- one entry more

pub adds_nothing : (g : GroupsByKey) → AddsEntries [] g g
adds_nothing g = record { groups = []; keyed = All-nil IsKeyed; are = refl; adds = refl }

pub adds_one : (es : List (List ℕ × AggState)) (g m h : GroupsByKey) (words key : List ℕ) (state : AggState) → AddsEntries es g m → AllBytes key → length key ≤ 248 → words ≡ packed_key key → h ≡ added m key state
    → AddsEntries (es ++ (words, state) ∷ []) g h
adds_one es g m h words key state so_far bytes short packs is = record {
  groups = so_far.groups ++ (key, state) ∷ [];
  keyed = All-push IsKeyed so_far.groups (key, state) so_far.keyed (record { bytes = bytes; short = short });
  are = ap (λ (l : List (List ℕ × AggState)). l ++ (words, state) ∷ []) so_far.are
      ∙ ap (λ (k : List ℕ). map_list called so_far.groups ++ (k, state) ∷ []) packs
      ∙ sym (map-append called so_far.groups ((key, state) ∷ []));
  adds = is ∙ ap (λ (n : GroupsByKey). added n key state) so_far.adds ∙ sym (fold-append (λ (so_far' : GroupsByKey) (x : Group). added so_far' x.0 x.1) g so_far.groups ((key, state) ∷ []));
}

-- the entries of a map of cells with packed keys have packed keys
packed_pairs : (cells : KeyMap AggState) → ArePacked cells → (es : List (List ℕ × AggState)) → AllByRecursion (λ (e : List ℕ × AggState). fin.contains_key cells e.0 ≡ true) es → AllByRecursion (λ (e : List ℕ × AggState). IsPackedKey e.0) es
packed_pairs cells packed [] h = tt
packed_pairs cells packed (e ∷ es) h = (packed e.0 h.0, packed_pairs cells packed es h.1)

of_pairs : (es : List (Entry AggObject AggState AggState (Unit {0}))) → AllByRecursion (λ (e : List ℕ × AggState). IsPackedKey e.0) (pairs_of es) → AllByRecursion (λ (e : Entry AggObject AggState AggState (Unit {0})). IsPackedKey e.key) es
of_pairs [] h = tt
of_pairs (e ∷ es) h = (h.0, of_pairs es h.1)

pub entries_packed : (cells : KeyMap AggState) (es : List (Entry AggObject AggState AggState (Unit {0}))) → ListsAll cells (pairs_of es) → ArePacked cells → All (λ (e : Entry AggObject AggState AggState (Unit {0})). IsPackedKey e.key) es
entries_packed cells es lists packed =
    All-from_recursion (λ (e : Entry AggObject AggState AggState (Unit {0})). IsPackedKey e.key) es
    (of_pairs es (packed_pairs cells packed (pairs_of es) (subst (λ (m : KeyMap AggState). AllByRecursion (λ (e : List ℕ × AggState). fin.contains_key m e.0 ≡ true) (pairs_of es)) lists.all (standing (pairs_of es)))))
