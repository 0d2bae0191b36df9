use Rattle.size_classes.proofs.Look.{looks_up}
use Rattle.size_classes.proofs.class_of.Goals as goal

pub returns-clause-least : goal.returns-clause-least
returns-clause-least c = looks_up c.args.bytes c.requires.some c.if-bytes-gt-LARGEST_SIZE.false
