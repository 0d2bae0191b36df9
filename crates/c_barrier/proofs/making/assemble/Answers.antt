use Rattle.std.proofs.Common.{◌≡◌, ℕ, [], ◌∷◌, length, length-append, sym, ap, ◌∙◌, subst, arith}
use Rattle.std_alloc.specs.Arc.{arc_value}
use Rattle.par_barrier.specs.Shown.{Belongs, callers_of, history_of, number_of, own_of}
use Rattle.par_barrier.specs.declared.barrier.Barrier.{Barrier}
use Rattle.c_barrier.proofs.Lists.{at_end, each_but_last}
use Rattle.c_barrier.proofs.making.assemble.Goals as goal

pub invariant_of-result : goal.invariant_of-result
invariant_of-result c =
    let n = c.in_ok-barrier.ensures in
    let e = sym c.in_ok-shared.ensures.ok in
    let own = each_but_last (λ k p. Belongs c.in_ok-barrier.barrier p × (number_of p ≡ k) × (history_of p ≡ []) × (own_of p ≡ [])) _ _ _ c.in-Some.ensures.items (λ k p at. let o = n.passes.each k p at in let f = n.fresh k p at in (o.0, o.1, f.0, f.1)) in
    record {
      own = subst (λ (b : Barrier). Belongs b c.in-Some.pass) e own.1.0;
      others = λ k p at. let o = own.0 k p at in (subst (λ (b : Barrier). Belongs b p) e o.0, o.1, o.2, o.3);
    }

pub returns : goal.returns
returns c =
    let n = c.in_ok-barrier.ensures in
    let last = n.passes.each _ c.in-Some.pass (at_end _ _ _ c.in-Some.ensures.items) in
    record {
      callers_are = ap callers_of c.in_ok-shared.ensures.ok ∙ n.callers;
      others = omega (arith, ap length c.in-Some.ensures.items, length-append c.pop.new.self.items (c.in-Some.pass ∷ []), n.passes.count, n.callers);
      number = omega (arith, last.1, ap length c.in-Some.ensures.items, length-append c.pop.new.self.items (c.in-Some.pass ∷ []), n.passes.count, n.callers);
      fresh = n.fresh _ c.in-Some.pass (at_end _ _ _ c.in-Some.ensures.items);
    }
