use Rattle.std.proofs.Common.{◌+◌, ◌∙◌, ℕ, List, ap}
use Rattle.text_lines.specs.Feeds.{count_feeds}
use Rattle.stream_groups.proofs.batch.Batch.of_window.Goals as goal

pub returns-clause-feeds : goal.returns-clause-feeds
returns-clause-feeds c = c.in_ok-feeds.ensures.more ∙ ap (λ (l : List ℕ). c.args.before + count_feeds l) c.lines.ensures
