-- The lines of groups, one after another.
use Rattle.std.proofs.Common.{◌≡◌, ◌<◌, ◌≤◌, ◌+◌, ◌++◌, ◌∙◌, ℕ, Err, List, [], ◌∷◌, All, Ok, OnOk, Result, Some, ap, append-nil, get_or, length, map, refl, subst, sym, take}
use Rattle.std.proofs.lemmas.List.{get_or-map, map-append, take_more}
use Rattle.std.proofs.lemmas.List.Folds.{concat-append}
use Rattle.std.proofs.lemmas.Option.{get_or_from_slice_get}
use Rattle.std.specs.List.{concat, slice_get}
use Rattle.std.specs.List.Sorted.{IsPermutation, IsSortedBy}
use Rattle.par_model.specs.Key.{encoded, encoded_field}
use Rattle.par_model.specs.Plan.{Plan}
use Rattle.par_model.specs.declared.state.AggState.{AggState}
use Rattle.partial_agg.specs.State.{empty_state}
use Rattle.partial_agg.specs.declared.groups.Group.{Group}
use Rattle.result_text.specs.GroupOrder.{group_of, is_before, line_of, state_in}
use Rattle.result_text.specs.Pieces.{lines_text}
use Rattle.result_text.specs.Printable.{ArePrintable}
use Rattle.result_text.specs.Text.{AreLinesOf}
use Rattle.result_text.specs.declared.order.GroupRef.{GroupRef}
use Rattle.result_text.proofs.Sorting.{IsRead, all_read, all_refs, lines-groups, rising}

-- the state at a place of a list
pub state_is : (groups : List Group) (ref : GroupRef) (s : AggState) → slice_get (map (λ (g : Group). g.state) groups) ref.at ≡ Some s → state_in groups ref ≡ s
state_is groups ref s is = get_or_from_slice_get (map (λ (g : Group). g.state) groups) ref.at s empty_state is

pub small_at : (P : AggState → Type 0) (groups : List Group) (at : ℕ) (s : AggState) → slice_get (map (λ (g : Group). g.state) groups) at ≡ Some s → at < length groups → All (λ (g : Group). P g.state) groups → P s
small_at P groups at s is lt all =
    let no_group : Group = record { key = []; state = empty_state } in
    subst P (sym (get_or-map (λ (g : Group). g.state) groups at no_group s lt) ∙ get_or_from_slice_get (map (λ (g : Group). g.state) groups) at s s is) (all at no_group lt)

-- the lines of groups in the order of the table
pub are_lines : (plan : Plan) (groups : List Group) (refs : List GroupRef) → ArePrintable plan groups → All (λ (g : Group). length g.key ≤ 248) groups → IsPermutation groups (map (group_of groups) refs) → IsSortedBy (is_before (length plan.groups)) refs
    → AreLinesOf plan groups (lines_text plan groups refs)
are_lines plan groups refs printable short same sorted =
    let count = length plan.groups in
    let read = all_refs (IsRead count) groups refs same (all_read plan groups printable short) in
    record {
      lines = map (line_of count groups) refs;
      short = short;
      rising = rising count groups refs printable.different same read sorted;
      same = subst (IsPermutation groups) (sym (lines-groups count groups refs read)) same;
      is = refl;
    }

-- ---- the fields of a key

pub encoded-none : [] ≡ encoded []
unfolding encoded
encoded-none = refl

encoded_one : (field : List ℕ) → encoded (field ∷ []) ≡ encoded_field field
unfolding encoded
encoded_one field = append-nil (encoded_field field)

encoded-append : (fields more : List (List ℕ)) → encoded (fields ++ more) ≡ encoded fields ++ encoded more
unfolding encoded
encoded-append fields more = ap concat (map-append encoded_field fields more) ∙ concat-append (map encoded_field fields) (map encoded_field more)

pub encoded_more : (fields : List (List ℕ)) (at : ℕ) → at < length fields → encoded (take (at + 1) fields) ≡ encoded (take at fields) ++ encoded_field (get_or fields at [])
encoded_more fields at lt =
    ap encoded (take_more fields at [] lt) ∙ encoded-append (take at fields) (get_or fields at [] ∷ []) ∙ ap (λ (t : List ℕ). encoded (take at fields) ++ t) (encoded_one (get_or fields at []))

-- what follows of what holds if a call succeeds
pub on_ok : {T E : Type 0} (r : Result T E) (P Q : Type 0) → (P → Q) → OnOk r P → OnOk r Q
on_ok (Ok x) P Q f p = f p
on_ok (Err e) P Q f p = tt
