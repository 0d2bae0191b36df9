use Rattle.state_source.specs.declared.adding.SourceFault.TheVariants as fault
use Rattle.state_source.proofs.adding.add_rest.Goals as goal

pub returns-in-Err-clause-refused : goal.returns-in-Err-clause-refused
returns-in-Err-clause-refused c = λ m cover is. (fault.Load c.in-Err.fault, c.in-Err.ensures.refused m cover is, c.shifted.ensures)
