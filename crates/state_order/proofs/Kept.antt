-- The groups of a map that lie in a range.
use Rattle.std.proofs.Common.{◌≡◌, ℕ, Bool, true, false, List, [], All, None, Option, Some, ap, arith, cond, get_or, subst, sym, ◌∙◌}
use Rattle.std.proofs.lemmas.List.{get_or-map, length-map}
use Rattle.std.proofs.lemmas.List.Elements.{All-map}
use Rattle.std.specs.FinMap as map
use Rattle.par_model.specs.declared.state.AggState.{AggState}
use Rattle.partial_agg.specs.Groups.{GroupsByKey}
use Rattle.partial_agg.specs.Listed.{group, listed}
use Rattle.partial_agg.specs.declared.groups.Group.{Group}
use Rattle.partial_agg.proofs.Entries.{All-found, Contains-found}
use Rattle.partial_agg.proofs.Maps.{same_groups}
use Rattle.state_head.specs.Words.{Keys}
use Rattle.state_order.specs.Ranges.{AreWithin, is_within}

found_in : (P : Group → Type 0) (m : GroupsByKey) (key : List ℕ) (s : AggState) → All P (listed m) → map.get m key ≡ Some s → P (record { key = key; state = s })
found_in P m key s all is =
    let has = Contains-found m key s is in
    let es = map.entries m in
    subst P (get_or-map group es has.0 (key, s) (group (key, s)) has.1 ∙ ap group has.2) (all has.0 (group (key, s)) (omega (arith, has.1, length-map es group)))

of_inside : (b : Bool) (o : Option AggState) (s : AggState) → cond b o None ≡ Some s → o ≡ Some s
of_inside true o s e = e
of_inside false o s e = cc

-- what holds of all groups holds of those in a range
pub each_within : (P : Group → Type 0) (n : ℕ) (range : Keys) (m within : GroupsByKey) → AreWithin n range m within → All P (listed m) → All P (listed within)
each_within P n range m within are all =
    All-map P group (map.entries within) (λ k d lt. found_in P m (get_or (map.entries within) k d).0 (get_or (map.entries within) k d).1 all
    (of_inside (is_within n range (get_or (map.entries within) k d).0) (map.get m (get_or (map.entries within) k d).0) (get_or (map.entries within) k d).1 (sym (are.each (get_or (map.entries within) k d).0) ∙ All-found within k d lt)))

-- a range without ends has all groups
pub all_within : (n : ℕ) (m within : GroupsByKey) → AreWithin n (record { low = []; high = [] }) m within → within ≡ m
all_within n m within are = same_groups within m are.each
