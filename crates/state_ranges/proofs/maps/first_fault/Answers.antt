use Rattle.state_ranges.proofs.maps.first_fault.Goals as goal

pub returns-in-Err-clause-fault : goal.returns-in-Err-clause-fault
returns-in-Err-clause-fault c = record { k = c.loop-at.at; or = _; before = c.loop-at-test.true; has = c.in-Err.is }
