use Rattle.state_source.proofs.Rests.{of_any}
use Rattle.state_query.specs.Whys.{IsReadStop}
use Rattle.state_query.proofs.Loads.{no_source}
use Rattle.state_query.proofs.input.first_of.Goals as goal

pub returns-in-Err-clause-why : goal.returns-in-Err-clause-why
returns-in-Err-clause-why g c = of_any (g.S.Source.left c.args.source.now) (λ bytes. IsReadStop bytes c.of_source.result) (λ bytes. c.of_source.ensures.why bytes (no_source bytes c.in-Err.why c.in-Err.ensures.why))
