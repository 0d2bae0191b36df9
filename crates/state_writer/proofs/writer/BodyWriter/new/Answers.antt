use Rattle.std.proofs.Common.{refl}
use Rattle.state_writer.proofs.Cuts.{none_taken}
use Rattle.state_writer.proofs.writer.BodyWriter.new.Goals as goal

pub returns : goal.returns
returns c = λ kinds. none_taken kinds c.args.at _ (c.new.ensures.none kinds) c.new-2.ensures.items refl
