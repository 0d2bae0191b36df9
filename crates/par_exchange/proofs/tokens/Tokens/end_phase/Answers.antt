use Rattle.std.proofs.Common.{◌∙◌, ap}
use Rattle.par_exchange.specs.States.{TokensView}
use Rattle.par_exchange.proofs.Ways.{ended_as}
use Rattle.par_exchange.proofs.tokens.Tokens.end_phase.Goals as goal

pub returns-clause-ended : goal.returns-clause-ended
returns-clause-ended g c =
    let d = c.self.inside in
    let items = ap (λ v. v.items) (c.replace.ensures.after ∙ c.replace-empty.ensures.value) in
    let nobody = ap (λ (w : TokensView g.row.T.Denot). w.state.elected) c.self.view_is ∙ c.requires.nobody in
    ended_as d.parties d.brought.items d.given.items c.replace.new.dest.items d.present.items d.elected c.args.self.now c.self.view_is c.args.n c.self.invariant.0 (items ∙ c.self.invariant.3 nobody)
