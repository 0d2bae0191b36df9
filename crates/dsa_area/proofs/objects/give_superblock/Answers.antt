use Rattle.dsa_area.proofs.Steps.{some_reply}
use Rattle.dsa_area.proofs.objects.give_superblock.Goals as goal

pub returns-clause-given : goal.returns-clause-given
returns-clause-given g c = some_reply c.args.r.now c.args.area.now c.args.pass.now c.give_run-handed_back.new.pass c.args.run _ c.give_run-handed_back.result c.requires.run c.give_run-handed_back.ensures.given c.give_run-handed_back.ensures.refused
