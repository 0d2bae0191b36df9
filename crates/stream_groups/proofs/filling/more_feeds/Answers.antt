use Rattle.std.proofs.Common.{◌+◌, ℕ, ap}
use Rattle.stream_groups.proofs.filling.more_feeds.Goals as goal

pub returns-clause-more : goal.returns-clause-more
returns-clause-more c = ap (λ (n : ℕ). c.args.feeds + n) c.line_feeds-count.ensures.count
