use Rattle.std.proofs.Common.{◌≡◌, ◌+◌, ℕ, true, length, refl, ap, sym, subst, ◌∙◌, length-append}
use Rattle.dsa_area.specs.declared.area.Area.{Area}
use Rattle.dsa_area.specs.declared.area.AreaPass.{AreaPass}
use Rattle.dshash_parts.specs.Opening.{GaveSlices}
use Rattle.dshash_parts.specs.Sweeps.{GaveBack}
use Rattle.dshash_parts.proofs.Opening.{slices_last, gave_first, gave_none}
use Rattle.dshash_parts.proofs.open.give_slices.Goals as goal

-- where there is none to give, none went back
no_more : (a : Area) (p : AreaPass) (n : ℕ) → n ≡ 0 → GaveSlices a p p n
no_more a p n e = subst (λ (k : ℕ). GaveSlices a p p k) (sym e) (gave_none a p)

pub give-requires-clause-here : goal.give-requires-clause-here
give-requires-clause-here g c = (slices_last c.args.r.now c.loop-slice.slices.items c.pop.new.self.items c.in-Some.slice c.in-Some.ensures.items c.loop-slice.invariant.slices).1

pub loop-slice-init : goal.loop-slice-init
loop-slice-init g c = record { own = c.requires.own; caller = refl; slices = c.requires.slices; gave = λ q h. h; done = λ none. no_more _ _ _ none }

pub loop-slice-preserved : goal.loop-slice-preserved
loop-slice-preserved g c =
    let i = c.loop-slice.invariant in
    let s = slices_last c.args.r.now c.loop-slice.slices.items c.pop.new.self.items c.in-Some.slice c.in-Some.ensures.items i.slices in
    let one : length c.loop-slice.slices.items ≡ length c.pop.new.self.items + 1 = ap length c.in-Some.ensures.items ∙ length-append c.pop.new.self.items _ in
    let gave : (q : AreaPass) → GaveSlices c.args.area.now c.give.new.apass q (length c.pop.new.self.items) → GaveSlices c.args.area.now c.args.apass.now q (length c.args.slices.items) =
    λ q h. i.gave q (gave_first c.args.area.now c.loop-slice.apass _ q (length c.pop.new.self.items) (length c.loop-slice.slices.items) one (subst (λ (z : ℕ). GaveBack c.args.area.now c.loop-slice.apass c.give.new.apass z true) s.2 c.give.ensures.gave) h) in
    record {
      own = c.give.ensures.own;
      caller = c.give.ensures.caller ∙ i.caller;
      slices = s.0;
      gave = gave;
      done = λ none. gave c.give.new.apass (no_more c.args.area.now c.give.new.apass _ none);
    }
