use Rattle.uses_chunks.proofs.tests.a_number_is_raised_replaced_and_taken.Goals as goal

pub raise-raised-requires : goal.raise-raised-requires
raise-raised-requires g c = record { ready = (c.in_ok-r.area, c.keep-first.new.apass, c.keep-first.ensures.ready) }

pub raise-missing-requires : goal.raise-missing-requires
raise-missing-requires g c = record { ready = (c.in_ok-r.area, c.keep-first.new.apass, c.raise-raised.ensures.ready _ _ c.keep-first.ensures.ready) }

pub keep-requires-clause-ready : goal.keep-requires-clause-ready
keep-requires-clause-ready g c = c.raise-missing.ensures.ready _ _ (c.raise-raised.ensures.ready _ _ c.keep-first.ensures.ready)
