use Rattle.area_spares.proofs.spares.Spares.alloc.Goals as goal

pub returns-clause-spares : goal.returns-clause-spares
returns-clause-spares g c = (c.take_kept.ensures.spares c.args.r.now c.requires.spares).0

pub returns-clause-size : goal.returns-clause-size
returns-clause-size g c = (c.take_kept.ensures.spares c.args.r.now c.requires.spares).1

pub returns-clause-here : goal.returns-clause-here
returns-clause-here g c = (c.take_kept.ensures.spares c.args.r.now c.requires.spares).2
