use Rattle.stream_groups.proofs.gathered.add_near.Goals as goal

pub returns-clause-rows : goal.returns-clause-rows
returns-clause-rows g c = c.in-Ok.ensures.shared
