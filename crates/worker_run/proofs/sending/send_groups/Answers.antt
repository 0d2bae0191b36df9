use Rattle.worker_run.proofs.Lent.{pairs_lent, zeros_lent}
use Rattle.worker_run.proofs.sending.send_groups.Goals as goal

pub send_lent-requires-clause-zeros : goal.send_lent-requires-clause-zeros
send_lent-requires-clause-zeros g c = zeros_lent c.args.slots c.args.groups.now c.lent.result c.lent.ensures.groups c.requires.zeros

pub returns-clause-sent : goal.returns-clause-sent
returns-clause-sent g c = record {
  empty = c.clear.ensures;
  all = record { done = _; all = pairs_lent c.args.groups.now c.lent.result c.lent.ensures.groups; these = c.if-not-send_lent.ensures.sent };
}
