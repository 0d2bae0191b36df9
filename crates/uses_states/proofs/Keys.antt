-- The keys of a map to which states were added one by one.
use Rattle.std.proofs.Common.{◌≡◌, ◌∙◌, ℕ, Bool, true, false, List, All, None, Some, cond, get_or, refl, subst, sym}
use Rattle.std.specs.Cmp.Lexicographic.{nat_list_cmp_total}
use Rattle.std.specs.FinMap as map
use Rattle.std.specs.Ordering.{eq_by_cmp}
use Rattle.std.proofs.lemmas.List.Elements.{All-map}
use Rattle.par_model.specs.declared.state.AggState.{AggState}
use Rattle.partial_agg.specs.Groups.{GroupsByKey, added, joined, key_cmp}
use Rattle.partial_agg.specs.Listed.{group, listed}
use Rattle.partial_agg.specs.declared.groups.Group.{Group}
use Rattle.partial_agg.proofs.Entries.{All-found}
use Rattle.partial_agg.proofs.Joining.{equal}
use Rattle.result_text.specs.Printable.{IsKeyOf}

-- each key of a map is the encoding of this many columns
pub HaveKeys : ℕ → GroupsByKey → Type 0
HaveKeys count m = (key : List ℕ) (state : AggState) → map.get m key ≡ Some state → IsKeyOf count key

pub keys_none : (count : ℕ) → HaveKeys count map.empty
unfolding HaveKeys
keys_none count key state is = let no : None ≡ Some state = sym (map.get-empty key_cmp key) ∙ is in absurd cc

pub keys_added : (count : ℕ) (m : GroupsByKey) (key : List ℕ) (state : AggState) → IsKeyOf count key → HaveKeys count m → HaveKeys count (added m key state)
unfolding HaveKeys
keys_added count m key state here before q v is = by (eq_by_cmp key_cmp q key) refl (sym (map.get-insert nat_list_cmp_total m key (joined (map.get m key) state) q) ∙ is)
  where
    by : (b : Bool) → eq_by_cmp key_cmp q key ≡ b → cond b (Some (joined (map.get m key) state)) (map.get m q) ≡ Some v → IsKeyOf count q
    by false ties e = before q v e
    by true ties e =
        let same : q ≡ key = map.slice_cmp-IsAntisymmetric map.nat_cmp-IsAntisymmetric q key (equal (key_cmp q key) ties) in
        subst (IsKeyOf count) (sym same) here

pub keys_listed : (count : ℕ) (m : GroupsByKey) → HaveKeys count m → All (λ (g : Group). IsKeyOf count g.key) (listed m)
unfolding HaveKeys
keys_listed count m have =
    All-map (λ (g : Group). IsKeyOf count g.key) group (map.entries m) (λ k d lt. have (get_or (map.entries m) k d).0 (get_or (map.entries m) k d).1 (All-found m k d lt))
