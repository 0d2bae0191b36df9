-- The ordered map of the keys that found no slot, after one more.
use Rattle.std.proofs.Common.{◌≡◌, ◌∙◌, ℕ, Result, Ok, Err, OnOk, OnErr, Bool, true, false, cond, List, [], ◌∷◌, Option, None, Some, IfSome, refl, ap, sym, subst}
use Rattle.std.specs.BTreeMap.{BTreeMap, insert_entry}
use Rattle.std.specs.Cmp.Lexicographic.{nat_list_cmp_total}
use Rattle.std.specs.FinMap as finite
use Rattle.std.specs.Global.{Vec}
use Rattle.std.specs.List.{slice_get}
use Rattle.std.specs.Map.{lookup}
use Rattle.std.specs.Ordering.{is_eq, match_ordering}
use Rattle.std.specs.declared.cmp.Ordering.{Ordering}
use Rattle.std.specs.declared.cmp.Ordering.TheVariants.{Less, Equal, Greater}
use Rattle.key_index.specs.Index.{IsLate, late_place}
use Rattle.key_index.specs.Keys.{key_cmp}

abbrev pub vec_cmp : Vec ℕ → Vec ℕ → Ordering
vec_cmp a b = key_cmp a.items b.items

abbrev at : List ℕ → Vec ℕ → Bool
at key other = is_eq (key_cmp key other.items)

same_key : (a b : List ℕ) → key_cmp a b ≡ Equal → a ≡ b
same_key a b e = finite.slice_cmp-IsAntisymmetric finite.nat_cmp-IsAntisymmetric a b e

is_equal : (o : Ordering) → is_eq o ≡ true → o ≡ Equal
is_equal Less e = cc
is_equal Equal e = refl
is_equal Greater e = cc

no_other : Equal ≡ Greater → ⊥
no_other e = cc

-- what is found under a key after an entry was put in
lookup-insert : (key : List ℕ) (v : Vec ℕ) (place : ℕ) (es : List (Vec ℕ × ℕ)) → lookup (at key) (insert_entry vec_cmp es v place) ≡ cond (at key v) (Some place) (lookup (at key) es)
lookup-insert key v place [] = refl
lookup-insert key v place (e ∷ es) = by (vec_cmp v e.0) refl (lookup-insert key v place es)
  where
    by : (o : Ordering) → vec_cmp v e.0 ≡ o → lookup (at key) (insert_entry vec_cmp es v place) ≡ cond (at key v) (Some place) (lookup (at key) es)
        → lookup (at key) (match_ordering o ((v, place) ∷ e ∷ es) ((e.0, place) ∷ es) (e ∷ insert_entry vec_cmp es v place)) ≡ cond (at key v) (Some place) (lookup (at key) (e ∷ es))
    by Less is rest = refl
    by Equal is rest = equal (at key v) (at key e.0) (ap (λ (k : List ℕ). is_eq (key_cmp key k)) (same_key v.items e.0.items is))
      where
        equal : (b d : Bool) → b ≡ d → cond d (Some place) (lookup (at key) es) ≡ cond b (Some place) (cond d (Some e.1) (lookup (at key) es))
        equal true true h = refl
        equal true false h = cc
        equal false true h = cc
        equal false false h = refl
    by Greater is rest = greater (at key v) (at key e.0) (λ a b. apart a b is) rest
      where
        apart : at key v ≡ true → at key e.0 ≡ true → vec_cmp v e.0 ≡ Greater → ⊥
        apart a b is =
            let other = sym (is_equal (key_cmp key e.0.items) b) ∙ nat_list_cmp_total.congr key v.items e.0.items (is_equal (key_cmp key v.items) a) ∙ is in
            no_other other

        greater : (b d : Bool) → (b ≡ true → d ≡ true → ⊥) → lookup (at key) (insert_entry vec_cmp es v place) ≡ cond b (Some place) (lookup (at key) es)
            → cond d (Some e.1) (lookup (at key) (insert_entry vec_cmp es v place)) ≡ cond b (Some place) (cond d (Some e.1) (lookup (at key) es))
        greater true true h rest = absurd (h refl refl)
        greater true false h rest = rest
        greater false true h rest = refl
        greater false false h rest = rest

-- a key that was late is so after another was put in
pub late_put : (old new : BTreeMap (Vec ℕ) ℕ) (keys : List (List ℕ)) (v : Vec ℕ) (place : ℕ) (other : List ℕ) → new.entries ≡ insert_entry vec_cmp old.entries v place → (IsLate old keys v.items → ⊥)
    → IsLate old keys other → IsLate new keys other
late_put old new keys v place other is none l = by (at other v) refl
  where
    by : (b : Bool) → at other v ≡ b → IsLate new keys other
    by true e = absurd (none (subst (IsLate old keys) (same_key other v.items (is_equal (key_cmp other v.items) e)) l))
    by false e = record {
      place = l.place;
      there = ap (lookup (at other)) is ∙ lookup-insert other v place old.entries ∙ ap (λ b. cond b (Some place) (lookup (at other) old.entries)) e ∙ l.there;
      same = l.same;
    }

-- the same entries
pub late_same : (old new : BTreeMap (Vec ℕ) ℕ) (keys : List (List ℕ)) (other : List ℕ) → new.entries ≡ old.entries → IsLate old keys other → IsLate new keys other
late_same old new keys other is l = record { place = l.place; there = ap (lookup (at other)) is ∙ l.there; same = l.same }

-- one goal from either case of a result
pub by_result : {A E : Type 0} (r : Result A E) (P Q G : Type 0) → OnOk r P → OnErr r Q → (P → G) → (Q → G) → G
by_result (Ok a) P Q G p q f g = f p
by_result (Err e) P Q G p q f g = g q

-- a key that was found in the map
pub late_found : (late : BTreeMap (Vec ℕ) ℕ) (keys : List (List ℕ)) (key : List ℕ) (o : Option ℕ) (place : ℕ) → o ≡ Some place → IfSome o (λ p. late_place late key ≡ Some p)
    → IfSome o (λ p. slice_get keys p ≡ Some key) → IsLate late keys key
late_found late keys key None place e there same = cc
late_found late keys key (Some p) place e there same = record { place = p; there = there; same = same }
