-- What a caller of `text_of` shows: the groups of some rows have a text.
use Rattle.std.proofs.Common.{◌≡◌, ◌≤◌, ◌^◌, ◌&&◌, ◌∙◌, sym, subst, refl, arith, Bool, not, ℕ, List, All, Some, bytes_eq, length, get_or}
use Rattle.std.proofs.lemmas.List.{length-map}
use Rattle.std.proofs.lemmas.List.Elements.{All-map}
use Rattle.std.proofs.lemmas.List.Filters.{length-filter_both}
use Rattle.std.proofs.lemmas.Simd.{map-map}
use Rattle.std.specs.FinMap as finite
use Rattle.std.specs.List.{IsDistinct}
use Rattle.par_model.specs.Aggregate.{rows_of}
use Rattle.par_model.specs.Keep.{is_kept}
use Rattle.par_model.specs.Key.{columns_of, key_of}
use Rattle.par_model.specs.Plan.{Plan}
use Rattle.par_model.specs.Record.{field_of}
use Rattle.par_model.specs.declared.state.AggState.{AggState}
use Rattle.partial_agg.specs.Groups.{AreGroups, GroupsByKey, group_of}
use Rattle.partial_agg.specs.Listed.{group, listed}
use Rattle.partial_agg.specs.declared.groups.Group.{Group}
use Rattle.result_text.specs.Printable.{ArePrintable, IsKeyOf, IsSmallSlot}
use Rattle.partial_agg.proofs.Entries.{All-found, IsDistinct-keys}
use Rattle.result_text.proofs.Occurring.{occurs, state_is}
use Rattle.result_text.proofs.Small.{slots_small}

-- each group has the aggregates of its key
pub All-listed : (plan : Plan) (rows : List (List (List ℕ))) (m : GroupsByKey) → AreGroups plan rows m → All (λ (g : Group). group_of plan rows g.key ≡ Some g.state) (listed m)
All-listed plan rows m are =
    All-map (λ (g : Group). group_of plan rows g.key ≡ Some g.state) group (finite.entries m)
    (λ k d lt. sym (are.each (get_or (finite.entries m) k d).0) ∙ All-found m k d lt)

key_is : (plan : Plan) (rows : List (List (List ℕ))) (key : List ℕ) (state : AggState) → group_of plan rows key ≡ Some state → IsKeyOf (length plan.groups) key
key_is plan rows key state is =
    let row = occurs plan rows key state is in
    record { columns = columns_of plan row.0; many = length-map plan.groups (field_of row.0); is = sym row.2 }

abbrev has_key : Plan → List ℕ → List (List ℕ) → Bool
has_key plan key row = is_kept plan row && bytes_eq (key_of plan row) key

slots_are : (plan : Plan) (rows : List (List (List ℕ))) (key : List ℕ) (state : AggState) → length rows ≤ 2 ^ 50 → group_of plan rows key ≡ Some state → All IsSmallSlot state.slots
slots_are plan rows key state few is =
    subst (λ (s : AggState). All IsSmallSlot s.slots) (sym (state_is plan rows key state is))
    (slots_small plan (rows_of plan rows key) (omega (arith, length-filter_both (has_key plan key) (λ (row : List (List ℕ)). not (has_key plan key row)) (λ row. refl) rows)))

-- the groups of at most 2^50 rows
pub printable-listed : (plan : Plan) (rows : List (List (List ℕ))) (m : GroupsByKey) → length rows ≤ 2 ^ 50 → AreGroups plan rows m → ArePrintable plan (listed m)
printable-listed plan rows m few are =
    let each = All-listed plan rows m are in
    record {
      different = subst (IsDistinct bytes_eq) (sym (map-map (λ (g : Group). g.key) group (finite.entries m))) (IsDistinct-keys m);
      keys = λ k d lt. key_is plan rows (get_or (listed m) k d).key (get_or (listed m) k d).state (each k d lt);
      slots = λ k d lt. slots_are plan rows (get_or (listed m) k d).key (get_or (listed m) k d).state few (each k d lt);
    }
