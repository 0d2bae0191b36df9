use Rattle.std.proofs.Common.{◌≡◌, ◌<◌, false, ℕ, List, length, sym, ap, ◌∙◌, subst, arith, rules, vec_len}
use Rattle.par_barrier.specs.Kept.{AreParties, PartiesView}
use Rattle.par_barrier.specs.Parties.{is_among}
use Rattle.par_barrier.proofs.Rooms.{attached-room, joins}
use Rattle.par_barrier.proofs.parties.Parties.join.Goals as goal

pub push_reserved-requires : goal.push_reserved-requires
push_reserved-requires c =
    let i = c.self.invariant in
    let out : is_among c.args.n c.self.inside.attached.items ≡ false = ap (λ (v : PartiesView). is_among c.args.n v.state.attached) c.self.view_is ∙ c.requires.out in
    let below : c.args.n < c.self.inside.callers = subst (λ (v : PartiesView). c.args.n < v.callers) (sym c.self.view_is) c.requires.below in
    let size : vec_len c.self.inside.attached ≡ length c.self.inside.attached.items = search rules in
    let room = attached-room i.0 c.args.n below out in
    omega (arith, i.1)

pub invariant_of-self : goal.invariant_of-self
invariant_of-self c =
    let i = c.self.invariant in
    let out : is_among c.args.n c.self.inside.attached.items ≡ false = ap (λ (v : PartiesView). is_among c.args.n v.state.attached) c.self.view_is ∙ c.requires.out in
    let below : c.args.n < c.self.inside.callers = subst (λ (v : PartiesView). c.args.n < v.callers) (sym c.self.view_is) c.requires.below in
    (subst (λ (xs : List ℕ). AreParties c.self.inside.callers xs c.self.inside.arrived.items) (sym c.push_reserved.ensures.items) (joins i.0 c.args.n below out), omega (arith, i.1, c.push_reserved.ensures.capacity), i.2)
