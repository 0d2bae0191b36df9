use Rattle.std.proofs.Common.{rules, ◌<◌, length}
use Rattle.parallel_ctx.proofs.Queues.{all-same, same-put}
use Rattle.uses_query.proofs.gathers.stopped.leave_first.Goals as goal

pub returns : goal.returns
returns c =
    let queues = c.args.queues.now in
    let within : 0 < length queues = search rules in
    same-put queues queues 0 c.index-queues-0.result c.leave.new.queue within (all-same queues) c.leave.ensures
