use Rattle.std.proofs.Common.{◌+◌, arith}
use Rattle.numbered_rows.specs.Left.{numbered_faults}
use Rattle.numbered_rows.proofs.Lefts.{cause-after}
use Rattle.numbered_rows.proofs.numbered.Numbered.open.Goals as goal

pub returns-in-Err-Memory-clause-cause : goal.returns-in-Err-Memory-clause-cause
returns-in-Err-Memory-clause-cause g c =
    cause-after (numbered_faults g.S.Source.faults c.args.self.now) (g.S.Source.faults c.read_front.new.source + c.args.self.now.lacks) (numbered_faults g.S.Source.faults c.lack.new.self) c.lack.result
    (omega (arith, c.in-Err-Memory.ensures.faults)) c.lack.ensures.cause
