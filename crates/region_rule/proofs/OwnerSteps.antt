-- What a table asks of the steps of owners and of tokens of frozen words.
use Rattle.std.proofs.Common.{◌≡◌, ℕ, ◌+◌, ◌<◌, ◌≤◌, List, [], ◌∷◌, Option, Some, None, IfSome, refl, sym, ap, ◌∙◌, ⊎_elim}
use mathlib.Core.Option.{some, some-injective}
use mathlib.Core.Logic.{inl, inr}
use lib.ListN.{get_elem?}
use Rattle.std.specs.FinMap as fin
use Rattle.atomic_table.specs.Table.{Allows, Splits, Joins}
use Rattle.word_map.specs.WordMap.{WordMap, at, Has, union}
use Rattle.word_map.proofs.Maps.{at-insert, range_inside, rest_inside, union_from}
use Rattle.region_rule.specs.View.{Own, Frozen, Spent, Olds}
use Rattle.region_rule.specs.Sound.{Agrees}
use Rattle.region_rule.specs.Steps.{Load, Store, Split, Join, Freeze, Share, LoadFrozen, EndShare, Gather}
use Rattle.region_rule.specs.Places.{idle, copying, taking, Ruled}
use Rattle.region_rule.specs.Tells.{TellsApart, TellsLoad, TellsStore, TellsFreeze, TellsFrozen, rest_view, range_view, both_view, gathered_view}
use Rattle.region_rule.proofs.Allows.{load_back_allows, store_back_allows, load_allows, look_allows, split_allows, join_allows}

-- what is found in a word is its value in the map
pub own_value : (words : List ℕ) (m : WordMap) (k x : ℕ) → Agrees words m → get_elem? words k ≡ some x → (o : Option ℕ) → at m k ≡ o → IfSome o (λ y. y ≡ x)
own_value words m k x a found (Some y) e = some-injective y x (sym (a k y e) ∙ found)
own_value words m k x a found None e = tt

pub load_allowed : (count slots id i k x : ℕ) (m : WordMap) (o : Olds) → Has m k → k < count → slots ≡ count
    → Allows (Ruled count) slots id (taking (Own m o) k x 0 0, (k, x) ∷ []) i (λ n. n) (λ n after. TellsLoad (Own m o) k x after.0.view × (after ≡ (idle after.0.view, [])))
load_allowed count slots id i k x m o has inside even = load_back_allows count slots id i k x (Own m o) (TellsLoad (Own m o) k x) has inside even
    (λ w sound here found. let h = sound.honest id (Own m o) here in
    (Own m None, Load id k x, (m, o, here, found, refl), (λ q c. c, λ q c. c), (own_value w.words m k x h.0 found (at m k) refl, h.1, refl)))

same_keys : (m : WordMap) (k y : ℕ) → Has m k → (q : ℕ) → Has (fin.insert m k y) q → Has m q
same_keys m k y has q h = ⊎_elim
    (λ (p : (q ≡ k) × (y ≡ h.0)). (has.0, ap (at m) p.0 ∙ has.1))
    (λ (p : (q ≡ k → ⊥) × (at m q ≡ Some h.0)). (h.0, p.1))
    (at-insert m k y q h.0 h.1)

pub store_allowed : (count slots id i k x y : ℕ) (m : WordMap) (o : Olds) → Has m k → y < 18446744073709551616 → k < count → slots ≡ count
    → Allows (Ruled count) slots id (taking (Own m o) k x 0 0, (k, y) ∷ []) i (λ n. n) (λ n after. TellsStore (Own m o) k y after.0.view × (after ≡ (idle after.0.view, [])))
store_allowed count slots id i k x y m o has small inside even = store_back_allows count slots id i k x y (Own m o) (TellsStore (Own m o) k y) has inside even
    (λ w sound here. (Own (fin.insert m k y) o, Store id k y, (m, o, here, has, small, refl), (same_keys m k y has, λ q c. c), refl))

-- a join tells at the load after it
pub learn_allowed : (count slots id i : ℕ) (m : WordMap) (o : Olds) → 0 < count
    → Allows (Ruled count) slots id (idle (Own m o), []) i (λ n. n) (λ n after. TellsApart (Own m o) after.0.view × (after ≡ (idle after.0.view, [])))
learn_allowed count slots id i m o more = look_allows count slots id i 0 (Own m o) 0 0 (TellsApart (Own m o)) more
    (λ w x sound here found. (Own m None, Load id 0 x, (m, o, here, found, refl), (λ q c. inl c, λ q c. inl c), ((sound.honest id (Own m o) here).1, refl)))

pub split_allowed : (count id from len : ℕ) (m : WordMap) (o : Olds) → Splits (Ruled count) id (idle (Own m o)) (idle (rest_view from len (Own m o))) (idle (range_view from len (Own m o)))
split_allowed count id from len m o = split_allows count id (Own m o) 0 0 (rest_view from len (Own m o)) (range_view from len (Own m o))
    (λ w sound here. (Split id from len, (m, o, here, refl), (λ q c. inl (c.0, (rest_inside m from len q c.0 c.1).1), λ q c. inl c), (λ q c. inl (c.0, (range_inside m from len q c.0 c.1).1), λ q c. inl c)))

pub join_allowed : (count id other : ℕ) (m n : WordMap) (o p : Olds) → Joins (Ruled count) id (idle (Own m o)) other (idle (Own n p)) (idle (both_view (Own m o) (Own n p))) (idle Spent)
join_allowed count id other m n o p = join_allows count id other (Own m o) (Own n p) (both_view (Own m o) (Own n p))
    (λ w sound here at_other apart. (
      Join id other,
      (m, n, o, p, here, at_other, apart, refl),
      λ q c. ⊎_elim (λ (e : at n q ≡ Some c.0). inr (c.0, e)) (λ (e : at m q ≡ Some c.0). inl (c.0, e)) (union_from m n q c.0 c.1),
      λ q c. inl c,
    ))

-- an owner freezes what it has copied
pub freeze_allowed : (count slots id i : ℕ) (m : WordMap) (o : Olds) (from n : ℕ) → 0 < count → ((q : ℕ) → Has m q → (from ≤ q) × (q < from + n))
    → Allows (Ruled count) slots id (copying (Own m o) from n, []) i (λ f. f) (λ f after. TellsFreeze (Own m o) after.0.view × (after ≡ (idle after.0.view, [])))
freeze_allowed count slots id i m o from n more whole = look_allows count slots id i 0 (Own m o) from n (TellsFreeze (Own m o)) more
    (λ w x sound here found. (Frozen m, Freeze id 0 x, (m, o, here, found, refl), (λ q c. absurd c, λ q c. let w = whole q c in inr (tt, w.0, w.1)), refl))

pub load_frozen_allowed : (count slots id k : ℕ) (m : WordMap) → Has m k → k < count
    → Allows (Ruled count) slots id (idle (Frozen m), []) k (λ n. n) (λ n after. TellsFrozen (Frozen m) k n after.0.view × (after ≡ (idle after.0.view, [])))
load_frozen_allowed count slots id k m has inside = load_allows count slots id k (Frozen m) (TellsFrozen (Frozen m) k) has inside
    (λ w x sound here found. (Frozen m, LoadFrozen id k x, (m, here, found, refl), (λ q c. c, λ q c. c), (own_value w.words m k x (sound.honest id (Frozen m) here) found (at m k) refl, refl)))

pub share_allowed : (count id : ℕ) (m : WordMap) → Splits (Ruled count) id (idle (Frozen m)) (idle (Frozen m)) (idle (Frozen m))
share_allowed count id m = split_allows count id (Frozen m) 0 0 (Frozen m) (Frozen m)
    (λ w sound here. (Share id, (m, here, refl), (λ q c. inl c, λ q c. inl c), (λ q c. inl c, λ q c. inl c)))

pub end_share_allowed : (count id other : ℕ) (m : WordMap) → Joins (Ruled count) id (idle (Frozen m)) other (idle (Frozen m)) (idle (Frozen m)) (idle Spent)
end_share_allowed count id other m = join_allows count id other (Frozen m) (Frozen m) (Frozen m)
    (λ w sound here at_other apart. (EndShare id other, (m, here, at_other, apart, refl), λ q c. inl c, λ q c. inl c))

pub gather_allowed : (count id other : ℕ) (m n : WordMap) → Joins (Ruled count) id (idle (Frozen m)) other (idle (Frozen n)) (idle (gathered_view (Frozen m) (Frozen n))) (idle Spent)
gather_allowed count id other m n = join_allows count id other (Frozen m) (Frozen n) (Frozen (union m n))
    (λ w sound here at_other apart. (
      Gather id other,
      (m, n, here, at_other, apart, refl),
      λ q c. absurd c,
      λ q c. ⊎_elim (λ (e : at n q ≡ Some c.0). inr (c.0, e)) (λ (e : at m q ≡ Some c.0). inl (c.0, e)) (union_from m n q c.0 c.1),
    ))
