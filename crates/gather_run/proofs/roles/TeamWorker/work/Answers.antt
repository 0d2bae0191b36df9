use Rattle.gather_run.proofs.roles.TeamWorker.work.Goals as goal

pub returns-clause-did : goal.returns-clause-did
returns-clause-did g c plan has = c.work.ensures.ended plan has
