use Rattle.state_writer.proofs.writer.BodyWriter.close_last.Goals as goal

pub returns-clause-index : goal.returns-clause-index
returns-clause-index c = λ kinds start blocks block some index first many bytes. c.in_ok-close.ensures.index kinds start blocks block index first many bytes
