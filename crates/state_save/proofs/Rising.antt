-- The groups of a map, in the order of their columns, are tuples in the order of the table.
use Rattle.std.proofs.Common.{◌≡◌, ◌≤◌, ◌∙◌, ℕ, List, [], ◌∷◌, All, ap, bytes_eq, false, get_or, length, map, refl, subst, sym}
use Rattle.std.proofs.lemmas.Simd.{map-map}
use Rattle.std.proofs.lemmas.List.Sorted.{IsPermutation-map}
use Rattle.std.proofs.lemmas.Map.Text.{is_eq-slice_cmp}
use Rattle.std.specs.List.{AllByRecursion, IsDistinct}
use Rattle.std.specs.List.Sorted.{IsPermutation, IsSortedBy, IsStrictlySortedBy}
use Rattle.std.specs.Ordering.{is_eq}
use Rattle.std.specs.declared.cmp.Ordering.TheVariants.{Less}
use Rattle.par_model.specs.Table.{columns_cmp}
use Rattle.partial_agg.specs.Groups.{key_cmp}
use Rattle.partial_agg.specs.declared.groups.Group.{Group as MapGroup}
use Rattle.result_text.specs.GroupOrder.{group_of, is_before, line_of}
use Rattle.result_text.specs.KeyColumns.{columns_in}
use Rattle.result_text.specs.Printable.{IsKeyOf}
use Rattle.result_text.specs.Text.{Line}
use Rattle.result_text.specs.declared.order.GroupRef.{GroupRef}
use Rattle.result_text.proofs.KeyColumns.{encoded-columns_in}
use Rattle.result_text.proofs.Sorting.{IsRead, all_refs, rising}
use Rattle.state_save.specs.Saving.{AreTuplesOf, tuple_of, tuples_at}
use Rattle.state_whole.specs.Adding.{key_of}
use Rattle.state_whole.specs.declared.adding.Shape.{Shape}

-- keys that rise are different
above : (key : List ℕ) (keys : List (List ℕ)) → AllByRecursion (λ (y : List ℕ). key_cmp key y ≡ Less) keys → AllByRecursion (λ (y : List ℕ). bytes_eq key y ≡ false) keys
above key [] all = tt
above key (k ∷ keys) all = (sym (is_eq-slice_cmp key k) ∙ ap is_eq all.0, above key keys all.1)

different : (keys : List (List ℕ)) → IsStrictlySortedBy key_cmp keys → IsDistinct bytes_eq keys
unfolding IsDistinct IsStrictlySortedBy
different [] rise = tt
different (k ∷ keys) rise = (above k keys rise.0, different keys rise.1)

-- the columns of the keys are those of the lines
same_columns : (shape : Shape) (groups : List MapGroup) (refs : List GroupRef) → map (columns_in shape.columns) (map key_of (tuples_at shape groups refs)) ≡ map (λ (l : Line). l.0) (map (line_of shape.columns groups) refs)
same_columns shape groups [] = refl
same_columns shape groups (r ∷ refs) = ap (λ (cs : List (List (List ℕ))). columns_in shape.columns r.key.now ∷ cs) (same_columns shape groups refs)

pub are_tuples : (shape : Shape) (groups : List MapGroup) (refs : List GroupRef) → IsStrictlySortedBy key_cmp (map (λ (g : MapGroup). g.key) groups) → All (λ (g : MapGroup). IsKeyOf shape.columns g.key) groups
    → All (λ (g : MapGroup). length g.key ≤ 248) groups → IsPermutation groups (map (group_of groups) refs) → IsSortedBy (is_before shape.columns) refs → AreTuplesOf shape groups (tuples_at shape groups refs)
are_tuples shape groups refs rise keys short same sorted =
    let read : All (IsRead shape.columns) groups = λ k d lt. encoded-columns_in shape.columns (get_or groups k d).key (keys k d lt) (short k d lt) in
    let rises = rising shape.columns groups refs (different (map (λ (g : MapGroup). g.key) groups) rise) same (all_refs (IsRead shape.columns) groups refs same read) sorted in
    record {
      same = subst (IsPermutation (map (tuple_of shape) groups)) (map-map (tuple_of shape) (group_of groups) refs) (IsPermutation-map (tuple_of shape) groups (map (group_of groups) refs) same);
      rise = subst (IsStrictlySortedBy columns_cmp) (sym (same_columns shape groups refs)) rises;
    }
