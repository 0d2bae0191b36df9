use Rattle.par_stream.proofs.stream_table.Goals as goal

pub returns-in-Err-clause-why : goal.returns-in-Err-clause-why
returns-in-Err-clause-why g c = λ _. (c.in-Err.stop, c.in-Err.ensures.why, c.end.ensures.status, c.end.ensures.said)
