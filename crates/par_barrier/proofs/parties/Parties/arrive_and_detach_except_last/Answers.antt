use Rattle.std.proofs.Common.{◌≡◌, ◌==◌, true, false, not, sym, ap, subst, subst₂, ◌∙◌, rules}
use Rattle.std.specs.List.{list_any}
use Rattle.par_barrier.specs.declared.history.BarrierState.{BarrierState}
use Rattle.par_barrier.specs.declared.history.BarrierReply.{BarrierReply}
use Rattle.par_barrier.specs.declared.history.BarrierReply.TheVariants.{Left, Released}
use Rattle.par_barrier.specs.Parties.{is_among, next_phase, ended, parted}
use Rattle.par_barrier.specs.Legal.{ArrivesAndDetachesExceptLast, Leaves}
use Rattle.par_barrier.proofs.Ways.{except_last, except_others, some_stay}
use Rattle.par_barrier.proofs.parties.Parties.arrive_and_detach_except_last.Goals as goal

pub returns-then-not-has_others-clause-legal : goal.returns-then-not-has_others-clause-legal
returns-then-not-has_others-clause-legal c =
    let s = c.args.self.now.state in
    let here : is_among c.args.n s.attached ≡ true = search rules in
    let new : is_among c.args.n s.arrived ≡ false = search rules in
    let none : list_any (λ m. not (m == c.args.n)) s.attached ≡ false = search rules in
    let phase : c.phase-then-not-has_others.result ≡ next_phase s.phase = search rules in
    let after : c.end_phase.new.self.state ≡ ended c.args.n s = search rules in
    subst₂ (λ (r : BarrierReply) (t : BarrierState). ArrivesAndDetachesExceptLast c.args.n s r t) (ap (λ p. Released p true) (sym phase)) (sym after) (except_last c.args.n s here new none)

pub settle-requires : goal.settle-requires
settle-requires c =
    let s = c.args.self.now.state in
    let some : list_any (λ m. not (m == c.args.n)) s.attached ≡ true = search rules in
    let after : c.part.new.self.state ≡ parted c.args.n s = search rules in
    record { others = λ e. some_stay c.args.n s.attached some (sym (ap (λ (t : BarrierState). t.attached) after) ∙ e) }

pub returns-clause-legal : goal.returns-clause-legal
returns-clause-legal c =
    let s = c.args.self.now.state in
    let here : is_among c.args.n s.attached ≡ true = search rules in
    let new : is_among c.args.n s.arrived ≡ false = search rules in
    let some : list_any (λ m. not (m == c.args.n)) s.attached ≡ true = search rules in
    let after : c.part.new.self.state ≡ parted c.args.n s = search rules in
    except_others c.args.n s here new some c.settle.result c.settle.new.self.state (subst (λ (u : BarrierState). Leaves u (Left c.settle.result false) c.settle.new.self.state) after c.settle.ensures.legal)
