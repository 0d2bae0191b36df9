use Rattle.std.proofs.Common.{subst}
use Rattle.c_area.specs.Arenas.{name_of, state_of}
use Rattle.c_area.specs.Asked.{call_of, reply_of}
use Rattle.c_area.specs.Legal.{IsLegal}
use Rattle.c_area.specs.declared.arena.Arena.{Arena}
use Rattle.c_area.proofs.locked.LockedAreaKept.apply.Goals as goal

pub returns-clause-legal : goal.returns-clause-legal
returns-clause-legal c = λ n fits. subst (λ (a : Arena). IsLegal (name_of a) n (state_of a) (call_of c.args.ask) (reply_of c.serve.result) (state_of c.serve.new.arena)) c.self.view_is (c.serve.ensures.legal n)
