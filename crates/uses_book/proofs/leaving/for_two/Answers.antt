use Rattle.std.proofs.Common.{ap}
use Rattle.par_exchange.specs.Phases.{stage_from}
use Rattle.par_exchange.specs.declared.history.PartyStage.TheVariants.{Free}
use Rattle.uses_book.proofs.leaving.for_two.Goals as goal

pub returns-clause-zero : goal.returns-clause-zero
returns-clause-zero c =
    let e = c.in_ok-exchange.ensures in
    let at = c.two_of-zero.ensures.zero in
    (e.passes.each 0 _ at, e.passes.numbers 0 _ at, ap (stage_from Free) (e.fresh 0 _ at).1)

pub returns-clause-one : goal.returns-clause-one
returns-clause-one c =
    let e = c.in_ok-exchange.ensures in
    let at = c.two_of-zero.ensures.one in
    (e.passes.each 1 _ at, e.passes.numbers 1 _ at, ap (stage_from Free) (e.fresh 1 _ at).1)
