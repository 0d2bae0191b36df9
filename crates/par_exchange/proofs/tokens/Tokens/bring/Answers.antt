use Rattle.std.proofs.Common.{◌∙◌, refl, sym}
use Rattle.par_exchange.proofs.Ways.{brings_all}
use Rattle.par_exchange.proofs.tokens.Tokens.bring.Goals as goal

pub returns-clause-legal : goal.returns-clause-legal
returns-clause-legal g c =
    brings_all c.args.n c.args.token c.end_phase.result.items c.args.self.now c.put.new.self c.end_phase.new.self c.is_busy.ensures.within (sym c.is_busy.ensures.busy ∙ c.if-is_busy.false) c.put.ensures (c.if-not-have_all.ensures.yes refl) c.end_phase.ensures.tokens c.end_phase.ensures.ended
