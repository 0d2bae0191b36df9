use Rattle.std.proofs.Common.{◌≡◌, ℕ, List, Option, sym, ap, ap₂, arith, rules, subst₂, ◌∙◌}
use Rattle.std.proofs.lemmas.Fn.{filter_same}
use Rattle.par_barrier.specs.Kept.{AreParties, PartiesView}
use Rattle.par_barrier.specs.Parties.{without}
use Rattle.par_barrier.proofs.Rooms.{parts}
use Rattle.par_barrier.proofs.parties.Parties.part.Goals as goal

pub invariant_of-self : goal.invariant_of-self
invariant_of-self c =
    let attached : c.retain.new.self.items ≡ without c.args.n c.self.inside.attached.items = filter_same _ _ _ (λ x b f' k. search rules) _ _ c.retain.ensures.filtered in
    let arrived : c.retain-2.new.self.items ≡ without c.args.n c.self.inside.arrived.items = filter_same _ _ _ (λ x b f' k. search rules) _ _ c.retain-2.ensures.filtered in
    let i = c.self.invariant in
    (subst₂ (AreParties c.self.inside.callers) (sym attached) (sym arrived) (parts i.0 c.args.n), omega (arith, i.1, c.retain.ensures.capacity), omega (arith, i.2, c.retain-2.ensures.capacity))

abbrev seen : ℕ → ℕ → List ℕ → List ℕ → Option ℕ → PartiesView
seen callers phase attached arrived elected = record { callers = callers; state = record { phase = phase; attached = attached; arrived = arrived; elected = elected } }

pub returns : goal.returns
returns c =
    let attached : c.retain.new.self.items ≡ without c.args.n c.self.inside.attached.items = filter_same _ _ _ (λ x b f' k. search rules) _ _ c.retain.ensures.filtered in
    let arrived : c.retain-2.new.self.items ≡ without c.args.n c.self.inside.arrived.items = filter_same _ _ _ (λ x b f' k. search rules) _ _ c.retain-2.ensures.filtered in
    let i = c.self.inside in
    ap₂ (λ (xs ys : List ℕ). seen i.callers i.phase xs ys i.elected) attached arrived
    ∙ ap (λ (v : PartiesView). seen v.callers v.state.phase (without c.args.n v.state.attached) (without c.args.n v.state.arrived) v.state.elected) c.self.view_is
