use Rattle.agg_table.specs.Shown.{use_of}
use Rattle.gather_run.proofs.Shares.{shared_many}
use Rattle.gather_run.proofs.sharing.share_many.Goals as goal

pub returns-clause-shared : goal.returns-clause-shared
returns-clause-shared g c =
    shared_many c.args.kept.now c.share_groups.new.kept (use_of c.args.seat.now) (use_of c.share_groups.new.seat) c.args.groups.now c.share_groups.new.groups c.share_groups.result c.share_groups.ensures.empty c.share_groups.ensures.shared
