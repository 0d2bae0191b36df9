-- The runs of all maps.
use Rattle.std.proofs.Common.{◌≡◌, ◌<◌, ◌≤◌, ◌+◌, ◌++◌, ◌∷◌, ◌∙◌, List, [], ℕ, suc, All, Ok, IfOk, Result, ap, arith, get_or, length, length-take, map, subst, sym, take}
use Rattle.std.proofs.lemmas.List.{length-map, map-append, map_more}
use Rattle.std.proofs.lemmas.List.Elements.{All-cons, All-head, All-nil, All-tail}
use Rattle.std.specs.declared.alloc.AllocError.{AllocError}
use Rattle.partial_agg.specs.Groups.{GroupsByKey}
use Rattle.partial_agg.specs.Listed.{listed}
use Rattle.partial_agg.specs.declared.groups.Group.{Group as MapGroup}
use Rattle.par_model.specs.declared.state.AggState.{AggState}
use Rattle.par_model.specs.declared.state.SlotState.{SlotState}
use Rattle.result_text.specs.GroupOrder.{group_of, state_in}
use Rattle.result_text.specs.declared.order.GroupRef.{GroupRef}
use Rattle.line_runs.specs.Entries.{Entry}
use Rattle.state_groups.specs.Group.{values_bytes}
use Rattle.state_lanes.specs.Lanes.{has_numbers, lane_slots}
use Rattle.state_save.specs.Saving.{tuple_of, tuples_at}
use Rattle.state_whole.specs.Adding.{IsShape}
use Rattle.state_whole.specs.declared.adding.Shape.{Shape}
use Rattle.state_runs.specs.Jobs.{AreDone}
use Rattle.state_runs.specs.Runs.{AreRunsOf, IsRunOf, entry_of, groups_in}
use Rattle.state_runs.specs.declared.runs.Job.{Job}

-- ---- of each map

front_all : {X : Type 0} (P : X → Type 0) (a b : List X) → All P (a ++ b) → All P a
front_all P [] b all = All-nil P
front_all P (x ∷ a) b all = All-cons P x a (All-head P x (a ++ b) all) (front_all P a b (All-tail P x (a ++ b) all))

back_all : {X : Type 0} (P : X → Type 0) (a b : List X) → All P (a ++ b) → All P b
back_all P [] b all = all
back_all P (x ∷ a) b all = back_all P a b (All-tail P x (a ++ b) all)

-- what holds of all groups holds of those of each map
pub each_map : (P : MapGroup → Type 0) (maps : List GroupsByKey) → All P (groups_in maps) → All (λ m. All P (listed m)) maps
each_map P [] all = All-nil (λ m. All P (listed m))
each_map P (m ∷ maps) all = All-cons (λ m. All P (listed m)) m maps (front_all P (listed m) (groups_in maps) all) (each_map P maps (back_all P (listed m) (groups_in maps) all))

-- what holds of all images
pub all_under : {X Y : Type 0} (P : Y → Type 0) (f : X → Y) (xs : List X) → All P (map f xs) → All (λ x. P (f x)) xs
all_under P f [] all = All-nil (λ x. P (f x))
all_under P f (x ∷ xs) all = All-cons (λ x. P (f x)) x xs (All-head P (f x) (map f xs) all) (all_under P f xs (All-tail P (f x) (map f xs) all))

-- ---- the jobs

abbrev Made : Type 0
Made = Result (List Entry) AllocError

pub runs_made : (shape : Shape) (olds news : List Job) (runs : List (List Entry)) → AreDone shape olds news → Path (List Made) (map Ok runs) (map (λ (job : Job). job.run) news) → AreRunsOf shape (map (λ (job : Job). job.map) olds) runs
runs_made shape [] [] [] done is = tt
runs_made shape [] [] (run ∷ runs) done is = absurd (cc)
runs_made shape [] (n ∷ news) runs done is = absurd (omega (arith, done.count))
runs_made shape (o ∷ olds) [] runs done is = absurd (omega (arith, done.count))
runs_made shape (o ∷ olds) (n ∷ news) [] done is = absurd (cc)
runs_made shape (o ∷ olds) (n ∷ news) (run ∷ runs) done is =
    let head : Path Made (Ok run) n.run = cc in
    let tail : Path (List Made) (map Ok runs) (map (λ (job : Job). job.run) news) = cc in
    let here : IsRunOf shape (listed o.map) run = subst (λ (made : Made). IfOk made (IsRunOf shape (listed o.map))) (sym head) (done.each 0 o (omega arith)) in
    (here, runs_made shape olds news runs (record { count = omega (arith, done.count); each = λ k d lt. done.each (suc k) d (omega (arith, lt)) }) tail)

-- ---- a run

abbrev pub no_ref : GroupRef
no_ref = record { key = record { ref_ptr = (0, 0); now = [] }; at = 0 }

-- what a group's tuple has, by what was made of its state
pub made_entry : (shape : Shape) (groups : List MapGroup) (ref : GroupRef) (state : AggState) (values : List ℕ) → state_in groups ref ≡ state
    → values ≡ values_bytes shape.kinds.now state.rows (lane_slots shape.lanes.now shape.items.now state.slots) → Path Entry (ref.key.now, values) (entry_of shape.kinds.now (tuple_of shape (group_of groups ref)))
made_entry shape groups ref state values is are =
    ap (λ (vs : List ℕ). (ref.key.now, vs)) (are ∙ ap (λ (s : AggState). values_bytes shape.kinds.now s.rows (lane_slots shape.lanes.now shape.items.now s.slots)) (sym is))

-- there is a slot for each kind
pub enough : (shape : Shape) (found : List SlotState) → IsShape shape → length found ≡ 8 → length shape.kinds.now ≤ length (take (length shape.lanes.now) found)
enough shape found is eight =
    let few = is.lanes in
    omega (arith, few, eight, ap length is.kinds, length-map shape.lanes.now has_numbers, length-take (length shape.lanes.now) found)

-- the tuples of a list, and one more
pub entries_more : (shape : Shape) (groups : List MapGroup) (refs : List GroupRef) (at : ℕ) (run new : List Entry) → at < length refs → run ≡ map (entry_of shape.kinds.now) (tuples_at shape groups (take at refs))
    → new ≡ run ++ entry_of shape.kinds.now (tuple_of shape (group_of groups (get_or refs at no_ref))) ∷ [] → new ≡ map (entry_of shape.kinds.now) (tuples_at shape groups (take (at + 1) refs))
entries_more shape groups refs at run new lt is grown =
    let f = entry_of shape.kinds.now in
    let own = tuple_of shape (group_of groups (get_or refs at no_ref)) in
    grown ∙ ap (λ (es : List Entry). es ++ f own ∷ []) is ∙ sym (map-append f (tuples_at shape groups (take at refs)) (own ∷ []))
    ∙ ap (map f) (sym (map_more (λ (r : GroupRef). tuple_of shape (group_of groups r)) refs at no_ref lt))
