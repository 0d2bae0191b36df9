use Rattle.span_pools.proofs.find.free_page.Goals as goal

pub room-requires-clause-inside : goal.room-requires-clause-inside
room-requires-clause-inside c = (c.requires.has c.in-Some.page (c.requires.active c.in-Some.page c.in-Some.is)).0

pub returns-in-Some-spare-clause-found : goal.returns-in-Some-spare-clause-found
returns-in-Some-spare-clause-found c = c.requires.spare c.in-Some-spare.page c.in-Some-spare.is
