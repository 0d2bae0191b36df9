use Rattle.std.specs.FinMap as map
use Rattle.agg_table.specs.Shown.{use_of}
use Rattle.worker_run.specs.Sent.{pairs_of}
use Rattle.worker_run.proofs.Giving.{gives_permuted}
use Rattle.worker_run.proofs.Lent.{pairs_lent, zeros_lent}
use Rattle.worker_run.proofs.tabled.give_groups.Goals as goal

pub give_lent-requires-clause-zeros : goal.give_lent-requires-clause-zeros
give_lent-requires-clause-zeros g c = zeros_lent c.args.slots c.args.groups.now c.lent.result c.lent.ensures.groups c.requires.zeros

pub returns-clause-given : goal.returns-clause-given
returns-clause-given g c = (
  c.clear.ensures,
  gives_permuted c.args.slots (map.entries c.args.groups.now) (pairs_of c.lent.result) (use_of c.args.seat.now) (use_of c.give_lent.new.seat) c.args.tuples.now.end c.give_lent.new.tuples.end (pairs_lent c.args.groups.now c.lent.result c.lent.ensures.groups)
      c.if-not-give_lent.ensures.given,
)
