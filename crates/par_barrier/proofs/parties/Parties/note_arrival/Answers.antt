use Rattle.std.proofs.Common.{◌≡◌, true, false, ℕ, List, length, sym, ap, ◌∙◌, subst, arith, rules, vec_len}
use Rattle.par_barrier.specs.Kept.{AreParties, PartiesView}
use Rattle.par_barrier.specs.Parties.{is_among}
use Rattle.par_barrier.proofs.Rooms.{arrived-room, arrives}
use Rattle.par_barrier.proofs.parties.Parties.note_arrival.Goals as goal

pub push_reserved-requires : goal.push_reserved-requires
push_reserved-requires c =
    let i = c.self.invariant in
    let here : is_among c.args.n c.self.inside.attached.items ≡ true = ap (λ (v : PartiesView). is_among c.args.n v.state.attached) c.self.view_is ∙ c.requires.here in
    let out : is_among c.args.n c.self.inside.arrived.items ≡ false = ap (λ (v : PartiesView). is_among c.args.n v.state.arrived) c.self.view_is ∙ c.requires.out in
    let size : vec_len c.self.inside.arrived ≡ length c.self.inside.arrived.items = search rules in
    let room = arrived-room i.0 c.args.n here out in
    omega (arith, i.2)

pub invariant_of-self : goal.invariant_of-self
invariant_of-self c =
    let i = c.self.invariant in
    let here : is_among c.args.n c.self.inside.attached.items ≡ true = ap (λ (v : PartiesView). is_among c.args.n v.state.attached) c.self.view_is ∙ c.requires.here in
    let out : is_among c.args.n c.self.inside.arrived.items ≡ false = ap (λ (v : PartiesView). is_among c.args.n v.state.arrived) c.self.view_is ∙ c.requires.out in
    (subst (λ (xs : List ℕ). AreParties c.self.inside.callers c.self.inside.attached.items xs) (sym c.push_reserved.ensures.items) (arrives i.0 c.args.n here out), i.1, omega (arith, i.2, c.push_reserved.ensures.capacity))
