use Rattle.std.proofs.Common.{◌≡◌, ◌+◌, ◌*◌, ◌++◌, ◌∷◌, [], ◌-◌, ◌∙◌, ℕ, List, None, ap, arith, get_or, length, length-append, map, sym, take}
use Rattle.std.proofs.lemmas.List.{length-map, take_all}
use Rattle.par_model.specs.declared.state.SlotState.{SlotState}
use Rattle.partial_agg.specs.Lanes.{Fits, lanes_of, slots_in, states_in}
use Rattle.partial_agg.specs.Values.{slot_of_value, values_state}
use Rattle.partial_agg.proofs.Lanes.{length-lanes_of, push-states_in}
use Rattle.partial_agg.proofs.Slots.{slots_of_values}
use Rattle.partial_agg.proofs.states.StateList.push_values.Goals as goal

-- there are as many lanes as before, and those of one more state
one_more : (n n' m l l' w : ℕ) → l ≡ n * w → n' ≡ n + 1 → m ≡ w → l' ≡ l + m → l' ≡ n' * w
one_more n n' m l l' w whole rows more lanes = lanes ∙ (λ i. whole i + more i) ∙ omega (arith) ∙ ap (λ (k : ℕ). k * w) (sym rows)

pub invariant_of-self-2 : goal.invariant_of-self-2
invariant_of-self-2 c =
    let layout = c.self.inside.layout in
    let rows = c.self.inside.rows.items in
    let lanes = c.self.inside.lanes.items in
    let kept = c.kept.result.now in
    let slot = λ (at : ℕ). slot_of_value (get_or c.args.values.now at None) in
    let all_rows : length c.push_reserved.new.self.items ≡ length rows + 1 = ap (length {A = ℕ}) (c.push_reserved.ensures.items ∙ ap (λ (rs : List ℕ). rs ++ 1 ∷ []) c.reserve.ensures.items) ∙ length-append rows (1 ∷ []) in
    let all_lanes : length c.push_lanes.new.lanes.items ≡ length lanes + length (map slot kept) = ap (length {A = SlotState}) c.in_ok-push_lanes.ensures.ok ∙ length-append lanes (map slot kept) in
    record {
      whole = one_more (length rows) (length c.push_reserved.new.self.items) (length (map slot kept)) (length lanes) (length c.push_lanes.new.lanes.items) layout.width
          c.self.invariant.whole all_rows (length-map kept slot ∙ c.kept.ensures.width) all_lanes;
      fits = c.self.invariant.fits;
    }

pub returns-clause-ok : goal.returns-clause-ok
returns-clause-ok c =
    let layout = c.self.inside.layout in
    let rows = c.self.inside.rows.items in
    let lanes = c.self.inside.lanes.items in
    let values = c.args.values.now in
    let slots = (values_state values).slots in
    let theirs = lanes_of layout slots in
    let long : length theirs ≡ layout.width = length-lanes_of layout slots (omega arith) (omega arith) in
    let fits : Fits layout slots = c.fits_values.ensures c.if-not-fits_values.false in
    let told : slots_in layout.parts (take layout.width theirs) ≡ slots = ap (slots_in layout.parts) (take_all layout.width theirs (omega (arith, long))) ∙ fits in
    let all_rows : c.push_reserved.new.self.items ≡ rows ++ 1 ∷ [] = c.push_reserved.ensures.items ∙ ap (λ (rs : List ℕ). rs ++ 1 ∷ []) c.reserve.ensures.items in
    let all_lanes : c.push_lanes.new.lanes.items ≡ lanes ++ theirs = c.in_ok-push_lanes.ensures.ok
    ∙ ap (λ (kept : List ℕ). lanes ++ map (λ (at : ℕ). slot_of_value (get_or values at None)) kept) c.kept.ensures.kept
    ∙ ap (λ (ls : List SlotState). lanes ++ ls) (slots_of_values (take layout.width layout.kept) values (8 - length values)) in
    (λ i. states_in layout (all_rows i) (all_lanes i))
    ∙ push-states_in layout rows lanes theirs 1 c.self.invariant.whole
    ∙ (λ i. c.self.view_is i ++ record { rows = 1; slots = told i } ∷ [])
