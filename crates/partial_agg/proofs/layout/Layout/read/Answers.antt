use Rattle.std.proofs.Common.{◌≡◌, ◌+◌, ◌∙◌, ℕ, List, ap, arith, drop, length-set, set, sym, take}
use Rattle.std.proofs.lemmas.List.{drop-drop, drop-set-lt, take-map}
use Rattle.par_model.specs.declared.state.SlotState.{SlotState}
use Rattle.partial_agg.specs.Lanes.{slot_in, slots_in}
use Rattle.partial_agg.proofs.Lanes.{map_step}
use Rattle.partial_agg.proofs.layout.Layout.read.Goals as goal

-- what lies behind a place that is written stays
rest_more : (now old : List SlotState) (at : ℕ) (slot : SlotState) → drop at now ≡ drop at old → drop (at + 1) (set now at slot) ≡ drop (at + 1) old
rest_more now old at slot same = drop-set-lt (at + 1) now at slot (omega arith) ∙ sym (drop-drop 1 at now) ∙ ap (drop 1) same ∙ drop-drop 1 at old

pub loop-at-preserved : goal.loop-at-preserved
loop-at-preserved c = record {
  long = length-set c.loop-at.slots c.loop-at.at c.slot_in.result ∙ c.loop-at.invariant.long;
  done = map_step (slot_in c.args.lanes.now) c.args.self.now.parts c.loop-at.slots c.loop-at.at _ c.slot_in.result (omega arith) (omega (arith, c.loop-at.invariant.long)) c.loop-at.invariant.done c.slot_in.ensures;
  rest = rest_more c.loop-at.slots c.args.slots.now c.loop-at.at c.slot_in.result c.loop-at.invariant.rest;
}

pub returns-clause-front : goal.returns-clause-front
returns-clause-front c =
    let all : c.loop-at.at ≡ c.args.count = omega arith in
    ap (λ (n : ℕ). take n c.loop-at.slots) (sym all)
    ∙ c.loop-at.invariant.done
    ∙ sym (take-map (slot_in c.args.lanes.now) c.loop-at.at c.args.self.now.parts)
    ∙ ap (λ (n : ℕ). take n (slots_in c.args.self.now.parts c.args.lanes.now)) all

pub returns-clause-rest : goal.returns-clause-rest
returns-clause-rest c =
    let all : c.loop-at.at ≡ c.args.count = omega arith in
    ap (λ (n : ℕ). drop n c.loop-at.slots) (sym all) ∙ c.loop-at.invariant.rest ∙ ap (λ (n : ℕ). drop n c.args.slots.now) all
