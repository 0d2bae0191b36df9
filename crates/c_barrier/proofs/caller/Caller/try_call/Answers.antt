use Rattle.std.proofs.Common.{sym, subst}
use Rattle.par_barrier.specs.Shown.{Belongs}
use Rattle.par_barrier.specs.declared.barrier.Barrier.{Barrier}
use Rattle.c_barrier.proofs.caller.Caller.try_call.Goals as goal

pub try_call-requires : goal.try_call-requires
try_call-requires c = record { own = subst (λ (b : Barrier). Belongs b c.self.inside.share.pass) (sym c.deref.ensures) c.self.invariant.own }

pub invariant_of-self : goal.invariant_of-self
invariant_of-self c = record { own = subst (λ (b : Barrier). Belongs b c.try_call.new.pass) c.deref.ensures c.try_call.ensures.own.0; others = c.self.invariant.others }
