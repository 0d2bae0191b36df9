use Rattle.std.proofs.Common.{◌≡◌, List, [], ◌∷◌, ◌++◌, refl, ap, ◌∙◌}
use Rattle.std.proofs.lemmas.List.{append_assoc}
use Rattle.dsa_area.specs.declared.area.AreaPass.{AreaPass}
use Rattle.dsa_area.proofs.Popped.{last_pages, last_pools, pass_here, pages_before, pools_before}
use Rattle.dsa_area.proofs.close.join_passes.Goals as goal

-- one more pass was taken from those that are left
taken : (all left xs rest : List AreaPass) (p : AreaPass) → all ≡ left ++ rest → left ≡ xs ++ p ∷ [] → all ≡ xs ++ p ∷ rest
taken all left xs rest p e f = e ∙ (ap (λ (l : List AreaPass). l ++ rest) f ∙ append_assoc xs (p ∷ []) rest)

pub new-pages-requires-clause-own : goal.new-pages-requires-clause-own
new-pages-requires-clause-own c κs = (pass_here c.args.area.now c.args.passes.items c.pop.new.self.items [] c.in-Some.last c.in-Some.ensures.items c.requires.all).pages

pub new-pages-requires-clause-last : goal.new-pages-requires-clause-last
new-pages-requires-clause-last c κs = last_pages c.args.area.now c.args.passes.items c.pop.new.self.items [] c.in-Some.last c.in-Some.ensures.items c.requires.all refl

pub new-pools-requires-clause-own : goal.new-pools-requires-clause-own
new-pools-requires-clause-own c κs = (pass_here c.args.area.now c.args.passes.items c.pop.new.self.items [] c.in-Some.last c.in-Some.ensures.items c.requires.all).pools

pub new-pools-requires-clause-last : goal.new-pools-requires-clause-last
new-pools-requires-clause-last c κs = last_pools c.args.area.now c.args.passes.items c.pop.new.self.items [] c.in-Some.last c.in-Some.ensures.items c.requires.all refl c.requires.area.1.callers

pub join-pages-requires-clause-own : goal.join-pages-requires-clause-own
join-pages-requires-clause-own c κs = (pass_here c.args.area.now c.args.passes.items c.pop-in-loop-pass.new.self.items c.loop-pass.invariant.joined.0 c.in-Some-pop.pass (taken _ _ _ _ _ c.loop-pass.invariant.joined.1 c.in-Some-pop.ensures.items) c.requires.all).pages

pub join-pages-requires-clause-before : goal.join-pages-requires-clause-before
join-pages-requires-clause-before c κs = pages_before c.args.area.now c.args.passes.items c.pop-in-loop-pass.new.self.items c.loop-pass.invariant.joined.0 c.in-Some-pop.pass (taken _ _ _ _ _ c.loop-pass.invariant.joined.1 c.in-Some-pop.ensures.items) c.requires.all _ c.loop-pass.invariant.joined.2.count

pub join-pools-requires-clause-own : goal.join-pools-requires-clause-own
join-pools-requires-clause-own c κs = (pass_here c.args.area.now c.args.passes.items c.pop-in-loop-pass.new.self.items c.loop-pass.invariant.joined.0 c.in-Some-pop.pass (taken _ _ _ _ _ c.loop-pass.invariant.joined.1 c.in-Some-pop.ensures.items) c.requires.all).pools

pub join-pools-requires-clause-before : goal.join-pools-requires-clause-before
join-pools-requires-clause-before c κs = pools_before c.args.area.now c.args.passes.items c.pop-in-loop-pass.new.self.items c.loop-pass.invariant.joined.0 c.in-Some-pop.pass (taken _ _ _ _ _ c.loop-pass.invariant.joined.1 c.in-Some-pop.ensures.items) c.requires.all _ c.requires.area.1.callers c.loop-pass.invariant.joined.3.count

pub loop-pass-preserved : goal.loop-pass-preserved
loop-pass-preserved c =
    let i = c.loop-pass.invariant.joined in record {
      joined = (c.in-Some-pop.pass ∷ i.0, taken _ _ _ _ _ i.1 c.in-Some-pop.ensures.items, c.join-pages.ensures _ i.2, c.join-pools.ensures _ i.3);
    }
