use Rattle.std.proofs.Common.{◌≡◌, ℕ, [], subst, length, length-append, sym, ap, ◌∙◌}
use mathlib.Core.Option.{some-ne-none}
use lib.ListN.{get_elem?}
use Rattle.std_alloc.specs.Arc.{arc_value}
use Rattle.par_barrier.specs.Shown.{Belongs, history_of, number_of, own_of}
use Rattle.par_barrier.specs.declared.barrier.Barrier.{Barrier}
use Rattle.c_barrier.specs.declared.shared.Share.{Share}
use Rattle.c_barrier.proofs.Lists.{at_end, each_but_last}
use Rattle.c_barrier.proofs.caller.Caller.share.Goals as goal

pub returns : goal.returns
returns c =
    let v = c.self.view_is in
    let next = c.self.invariant.others (length c.pop.new.self.items) c.in-Some.pass (at_end _ _ _ c.in-Some.ensures.items) in (
      record { barrier = ap (λ (s : Share). s.barrier) v; caller = ap (λ (s : Share). number_of s.pass) v },
      ap (λ (s : Share). s.pass) v,
      c.in-Ok.ensures ∙ ap (λ (s : Share). arc_value s.barrier) v,
      sym (ap (λ (s : Share). length s.others.items) v) ∙ ap length c.in-Some.ensures.items ∙ length-append c.pop.new.self.items _,
      c.new.ensures.items,
      next.1,
      next.2,
      next.3,
    )

pub invariant_of-self-2 : goal.invariant_of-self-2
invariant_of-self-2 c =
    let i = c.self.invariant in
    record {
      own = i.own;
      others = (each_but_last (λ k p. Belongs (arc_value c.self.inside.share.barrier) p × (number_of p ≡ k) × (history_of p ≡ []) × (own_of p ≡ [])) _ _ _ c.in-Some.ensures.items i.others).0;
    }

pub invariant_of-result : goal.invariant_of-result
invariant_of-result c =
    let next = c.self.invariant.others (length c.pop.new.self.items) c.in-Some.pass (at_end _ _ _ c.in-Some.ensures.items) in
    record {
      own = subst (λ (b : Barrier). Belongs b c.in-Some.pass) (sym c.in-Ok.ensures) next.0;
      others = λ k p at. absurd (some-ne-none p (sym at ∙ ap (λ l. get_elem? l k) c.new.ensures.items));
    }
