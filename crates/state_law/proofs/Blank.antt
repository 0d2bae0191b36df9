-- A file of no stretch and no tuples.
use Rattle.std.proofs.Common.{◌≡◌, ◌∙◌, ℕ, List, [], All, ap, map, subst, sym}
use Rattle.std.specs.FinMap as fin
use Rattle.std.specs.List.Sorted.{IsPermutation, IsStrictlySortedBy}
use Rattle.std.proofs.lemmas.List.{nil_from_length}
use Rattle.std.proofs.lemmas.List.Elements.{All-nil}
use Rattle.std.proofs.lemmas.List.Sorted.{IsPermutation-refl}
use Rattle.par_model.specs.Plan.{Plan}
use Rattle.par_model.specs.declared.state.AggState.{AggState}
use Rattle.partial_agg.specs.Groups.{AreGroups, key_cmp}
use Rattle.partial_agg.specs.Listed.{group, listed}
use Rattle.partial_agg.specs.declared.groups.Group.{Group as MapGroup}
use Rattle.row_blocks.specs.Blocks.{Table}
use Rattle.state_blocks.specs.Blocks.{Group}
use Rattle.state_order.specs.Order.{Rise}
use Rattle.state_save.specs.Saving.{tuple_of}
use Rattle.state_whole.specs.Adding.{IsShapeOf, key_of}
use Rattle.state_whole.specs.Files.{tuples_in}
use Rattle.state_whole.specs.declared.adding.Shape.{Shape}
use Rattle.state_law.specs.Law.{BlankIsTrue}
use Rattle.state_law.specs.Sources.{plan_in, rows_in}
use Rattle.state_law.specs.Truth.{AreRowTuples, IsTrue}

-- a map without groups
no_groups : listed fin.empty ≡ []
no_groups = ap (λ (es : List (List ℕ × AggState)). map group es) (nil_from_length (fin.entries fin.empty) (sym (fin.len-entries fin.empty) ∙ fin.len-empty key_cmp AggState))

pub none_rise : (columns : ℕ) → Rise columns []
unfolding IsStrictlySortedBy
none_rise columns = tt

-- no tuples are those of no rows
pub no_row_tuples : (plan : Plan) (shape : Shape) (rows : Table) (tuples : List Group) → IsShapeOf plan shape → rows ≡ [] → tuples ≡ [] → AreRowTuples plan rows tuples
no_row_tuples plan shape rows tuples of none empty =
    let same = subst (λ (l : List MapGroup). IsPermutation (map (tuple_of shape) l) []) (sym no_groups) (IsPermutation-refl []) in
    record {
      shape = shape;
      is_shape = of;
      groups = fin.empty;
      are_groups = subst (λ (l : Table). AreGroups plan l fin.empty) (sym none) (record { each = λ key. fin.get-empty key_cmp key });
      are = record {
        same = subst (λ (l : List Group). IsPermutation (map (tuple_of shape) (listed fin.empty)) l) (sym empty) same;
        rise = subst (λ (l : List Group). Rise shape.columns (map key_of l)) (sym empty) (none_rise shape.columns);
      };
    }

pub blank_is_true : BlankIsTrue
blank_is_true w shape f of none empty = record {
  each = subst (All (IsTrue w)) (sym none) (All-nil (IsTrue w));
  counted = λ is. no_row_tuples (plan_in w) shape (rows_in w f.preface.cover) (tuples_in f) of (ap (rows_in w) none) empty;
  refused = λ is. empty;
}
