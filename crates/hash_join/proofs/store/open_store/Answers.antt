use Rattle.hash_join.proofs.store.open_store.Goals as goal

pub returns-clause-store : goal.returns-clause-store
returns-clause-store c =
    let t = c.in_ok-table.ensures in
    record { area = c.in_ok-area.ensures.area; table = t.table; home = t.home c.in_ok-area.area; keys = t.keys; short = c.requires.words.1 }

pub returns-clause-new : goal.returns-clause-new
returns-clause-new c = λ n p e number. (c.in_ok-table.ensures.fresh n p e number).1
