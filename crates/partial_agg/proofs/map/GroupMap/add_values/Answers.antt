use Rattle.std.proofs.Common.{◌≡◌, ◌∙◌, ◌∷◌, ◌++◌, [], ℕ, List, Result, Ok, Err, ap, arith, get_or, length, length-append, reverse, set}
use Rattle.std.proofs.lemmas.Option.{slice_get_within}
use Rattle.std.specs.Prelude.{OnOk}
use Rattle.par_model.specs.declared.state.AggState.{AggState}
use Rattle.partial_agg.specs.Groups.{added}
use Rattle.partial_agg.specs.Placed.{groups_at, places_of}
use Rattle.partial_agg.specs.State.{combined, empty_state}
use Rattle.partial_agg.specs.Values.{values_state}
use Rattle.partial_agg.proofs.Grouped.{absent_differs, all_differ, are_places, grouped_pushed, none_there, place_whole, puts_pushed, reverse_push}
use Rattle.partial_agg.proofs.Placed.{group_added, state_combined}
use Rattle.partial_agg.proofs.map.GroupMap.add_values.Goals as goal

pub add_values-requires-clause-place : goal.add_values-requires-clause-place
add_values-requires-clause-place c =
    let there = slice_get_within c.self.inside.keys c.in-Some.place c.args.key.now c.in-Some.ensures.found in
    let counted = c.self.invariant.counted in
    omega (arith, there, counted)

-- what follows of a fact of an answer that is no error
on_ok : {T E : Type 0} (r : Result T E) (P Q : Type 0) → OnOk r P → (P → Q) → OnOk r Q
on_ok (Ok x) P Q p f = f p
on_ok (Err e) P Q p f = p

pub returns-in-Some-clause-ok : goal.returns-in-Some-clause-ok
returns-in-Some-clause-ok c =
    let keys = c.self.inside.keys in
    let left = reverse c.self.inside.left.items in
    let states = c.self.inside.states in
    let count = length states in
    let key = c.args.key.now in
    let place = c.in-Some.place in
    let state = values_state c.args.values.now in
    let new = c.add_values.new.self in
    on_ok c.add_values.result (new ≡ set states place (combined (get_or states place empty_state) state)) (groups_at (places_of keys left) new ≡ added c.args.self.now key state) c.add_values.ensures.ok
    (state_combined c.args.self.now (places_of keys left) states new key place state
    c.self.view_is (are_places keys count left c.self.inside.whole c.self.inside.sorted c.self.invariant)
    (place_whole keys count left c.self.inside.whole c.self.inside.sorted key place c.self.invariant c.if-self.true c.in-Some.ensures.found))

-- the list of places when a group came
left_back : (left more : List ℕ) (at count : ℕ) (all : List ℕ) → all ≡ more ++ at ∷ [] → more ≡ left → at ≡ count → reverse all ≡ count ∷ reverse left
left_back left more at count all is same counted =
    ap (reverse {A = ℕ}) (is ∙ ap (λ (ps : List ℕ). ps ++ at ∷ []) same) ∙ reverse_push left at ∙ ap (λ (n : ℕ). n ∷ reverse left) counted

pub invariant_of-self-in-None : goal.invariant_of-self-in-None
invariant_of-self-in-None c =
    let before = c.self.inside.left.items in
    let states = c.self.inside.states in
    let state = values_state c.args.values.now in
    let left_is : reverse c.push_reserved.new.self.items ≡ length states ∷ reverse before = left_back before c.reserve.new.self.items c.len-place.result (length states) c.push_reserved.new.self.items c.push_reserved.ensures.items c.reserve.ensures.items c.len-place.ensures in
    rw (c.in-Ok.ensures.ok, left_is)
    (grouped_pushed c.self.inside.keys (length states) (length c.push_values.new.self) (reverse before) c.self.inside.whole c.self.inside.sorted c.args.key.now
    c.self.invariant c.requires.short (λ place e. c.in-None.ensures.absent place e)
    (ap (length {A = AggState}) c.in_ok-push_values-in-None.ensures.ok ∙ length-append states (state ∷ [])))

pub returns-in-Ok-clause-ok : goal.returns-in-Ok-clause-ok
returns-in-Ok-clause-ok c =
    let keys = c.self.inside.keys in
    let before = c.self.inside.left.items in
    let left = reverse before in
    let states = c.self.inside.states in
    let whole = c.self.inside.whole in
    let sorted = c.self.inside.sorted in
    let key = c.args.key.now in
    let state = values_state c.args.values.now in
    let more = keys ++ key ∷ [] in
    let left_is : reverse c.push_reserved.new.self.items ≡ length states ∷ left = left_back before c.reserve.new.self.items c.len-place.result (length states) c.push_reserved.new.self.items c.push_reserved.ensures.items c.reserve.ensures.items c.len-place.ensures in
    (λ i. groups_at (places_of (c.in-Ok.ensures.ok i) (left_is i)) (c.in_ok-push_values-in-None.ensures.ok i))
    ∙ group_added c.args.self.now (places_of keys left) (places_of more (length states ∷ left)) states key state
    c.self.view_is (are_places keys (length states) left whole sorted c.self.invariant)
    (none_there keys left key (all_differ keys left key (absent_differs keys left key c.self.invariant.within (λ place e. c.in-None.ensures.absent place e))))
    (puts_pushed keys (length states) left whole sorted key c.self.invariant)
