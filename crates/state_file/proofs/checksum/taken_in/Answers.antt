use Rattle.state_file.proofs.Division.{looked_up}
use Rattle.state_file.proofs.checksum.taken_in.Goals as goal

pub returns : goal.returns
returns c = looked_up c.args.register c.args.byte c.from.result c.ranges.byte.fits c.from.ensures
