use Rattle.std.proofs.Common.{◌++◌}
use Rattle.state_head.specs.Head.{subject_of}
use Rattle.state_head.specs.Words.{keys_of}
use Rattle.state_source.proofs.Adds.{first_wrong}
use Rattle.state_source.proofs.beside.see.Goals as goal

pub returns-in-Err-clause-refused : goal.returns-in-Err-clause-refused
returns-in-Err-clause-refused c = record {
  each = λ m more. first_wrong c.args.shape.now (subject_of c.args.query.whole) (keys_of c.args.query.range) m (c.args.bytes.now ++ more) c.in-Err.why (c.in-Err.ensures.refused m more);
}
