-- The entries of a map: each is found at its key, no two have one key, and what is found is an entry.
use Rattle.std.proofs.Common.{◌≡◌, ◌<◌, ◌∷◌, ◌∙◌, [], ap, sym, refl, subst, cond, arith, Bool, true, false, ◌&&◌, T, ℕ, zero, suc, List, All, Contains, Some, bytes_eq, length, get_or, map as map_list}
use Rattle.std.proofs.lemmas.Map.Text.{is_eq-slice_cmp}
use Rattle.std.proofs.lemmas.Slice.Eq.{bytes_eq-Decides}
use Rattle.std.specs.Cmp.Lexicographic.{nat_list_cmp_total}
use Rattle.std.specs.FinMap as map
use Rattle.std.specs.FinMap.Entries.{below_all}
use Rattle.std.specs.List.{AllByRecursion, IsDistinct}
use Rattle.std.specs.Ordering.{eq_by_cmp, is_eq, is_lt, ordering_reverse}
use Rattle.std.specs.declared.cmp.Ordering.{Ordering}
use Rattle.std.specs.declared.cmp.Ordering.TheVariants.{Equal, Greater, Less}
use Rattle.par_model.specs.declared.state.AggState.{AggState}
use Rattle.partial_agg.specs.Groups.{GroupsByKey, key_cmp}

abbrev pub Entry : Type 0
Entry = List ℕ × AggState

-- the parts of a test by `&&`
front_of : (a b : Bool) → T (a && b) → a ≡ true
front_of true b h = refl
front_of false b h = absurd h

rest_of : (a b : Bool) → T (a && b) → T b
rest_of true b h = h
rest_of false b h = absurd h

less_of : (o : Ordering) → is_lt o ≡ true → o ≡ Less
less_of Less h = refl
less_of Equal h = cc
less_of Greater h = cc

-- a key is below those after it
below_at : (key : List ℕ) (es : List Entry) → T (below_all key_cmp key es) → (k : ℕ) (d : Entry) → k < length es → key_cmp key (get_or es k d).0 ≡ Less
below_at key [] h k d lt = absurd (omega arith)
below_at key (e ∷ es) h zero d lt = less_of (key_cmp key e.0) (front_of _ (below_all key_cmp key es) h)
below_at key (e ∷ es) h (suc k) d lt = below_at key es (rest_of (is_lt (key_cmp key e.0)) _ h) k d (omega arith)

-- what is below does not tie
apart : (a b : List ℕ) → key_cmp a b ≡ Less → eq_by_cmp key_cmp b a ≡ false
apart a b h = ap is_eq (nat_list_cmp_total.antisymm b a ∙ ap ordering_reverse h)

apart_bytes : (a b : List ℕ) → key_cmp a b ≡ Less → bytes_eq a b ≡ false
apart_bytes a b h = sym (is_eq-slice_cmp a b) ∙ ap is_eq h

ties : (a : List ℕ) → eq_by_cmp key_cmp a a ≡ true
ties a = is_eq-slice_cmp a a ∙ (bytes_eq-Decides a a).1 refl

-- each entry is found at its key
found : (es : List Entry) → T (map.is_sorted key_cmp es) → (k : ℕ) (d : Entry) → k < length es → map.find key_cmp (get_or es k d).0 es ≡ Some (get_or es k d).1
found [] sorted k d lt = absurd (omega arith)
found (e ∷ es) sorted zero d lt = rw (ties e.0) refl
found (e ∷ es) sorted (suc k) d lt =
    let key = (get_or es k d).0 in
    let other = apart e.0 key (below_at e.0 es (subst T (sym (front_of (below_all key_cmp e.0 es) (map.is_sorted key_cmp es) sorted)) tt) k d (omega arith)) in
    ap (λ (b : Bool). cond b (Some e.1) (map.find key_cmp key es)) other ∙ found es (rest_of (below_all key_cmp e.0 es) (map.is_sorted key_cmp es) sorted) k d (omega arith)

pub All-found : (m : GroupsByKey) → All (λ (e : Entry). map.get m e.0 ≡ Some e.1) (map.entries m)
All-found m k d lt = map.get-entries m (get_or (map.entries m) k d).0 ∙ found (map.entries m) (map.entries_sorted m) k d lt

-- what is found at a key is the value of an entry
pub behind : {X : Type 0} (x y : X) (xs : List X) → Contains xs x → Contains (y ∷ xs) x
behind x y xs has = (suc has.0, omega (arith, has.1), has.2)

from_find : (key : List ℕ) (es : List Entry) (v : AggState) → map.find key_cmp key es ≡ Some v → Contains es (key, v)
from_find key [] v h = cc
from_find key (e ∷ es) v h = by (eq_by_cmp key_cmp key e.0) refl (from_find key es v)
  where
    by : (b : Bool) → eq_by_cmp key_cmp key e.0 ≡ b → (map.find key_cmp key es ≡ Some v → Contains es (key, v)) → Contains (e ∷ es) (key, v)
    by true tie later =
        let same : key ≡ e.0 = (bytes_eq-Decides key e.0).0 (sym (is_eq-slice_cmp key e.0) ∙ tie) in
        let value : Some e.1 ≡ Some v = rw tie at h in
        let value_is : e.1 ≡ v = cc in
        (0, omega arith, λ i. (sym same i, value_is i))
    by false tie later = behind (key, v) e es (later (rw tie at h))

pub Contains-found : (m : GroupsByKey) (key : List ℕ) (v : AggState) → map.get m key ≡ Some v → Contains (map.entries m) (key, v)
Contains-found m key v h = from_find key (map.entries m) v (sym (map.get-entries m key) ∙ h)

-- no two entries have one key
apart_all : (key : List ℕ) (es : List Entry) → T (below_all key_cmp key es) → AllByRecursion (λ (y : List ℕ). bytes_eq key y ≡ false) (map_list (λ (e : Entry). e.0) es)
apart_all key [] h = tt
apart_all key (e ∷ es) h = (apart_bytes key e.0 (less_of (key_cmp key e.0) (front_of _ (below_all key_cmp key es) h)), apart_all key es (rest_of (is_lt (key_cmp key e.0)) _ h))

distinct_keys : (es : List Entry) → T (map.is_sorted key_cmp es) → IsDistinct bytes_eq (map_list (λ (e : Entry). e.0) es)
unfolding IsDistinct
distinct_keys [] sorted = tt
distinct_keys (e ∷ es) sorted = (apart_all e.0 es (subst T (sym (front_of (below_all key_cmp e.0 es) (map.is_sorted key_cmp es) sorted)) tt), distinct_keys es (rest_of (below_all key_cmp e.0 es) (map.is_sorted key_cmp es) sorted))

pub IsDistinct-keys : (m : GroupsByKey) → IsDistinct bytes_eq (map_list (λ (e : Entry). e.0) (map.entries m))
IsDistinct-keys m = distinct_keys (map.entries m) (map.entries_sorted m)
