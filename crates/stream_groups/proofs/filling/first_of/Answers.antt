use Rattle.std.proofs.Common.{◌+◌, ◌∙◌, ℕ, List, ap, refl}
use Rattle.text_lines.specs.Feeds.{count_feeds}
use Rattle.stream_groups.proofs.filling.first_of.Goals as goal

pub returns-clause-first : goal.returns-clause-first
returns-clause-first c = record {
  window = refl;
  header = refl;
  last = refl;
  feeds = c.in_ok-feeds.ensures.more ∙ ap (λ (l : List ℕ). c.args.feeds + count_feeds l) c.header.ensures;
  few = c.in_ok-feeds.ensures.few;
}
