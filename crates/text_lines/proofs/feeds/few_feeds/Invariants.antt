use Rattle.std.proofs.Common.{◌≡◌, ◌≤◌, take}
use Rattle.text_lines.specs.Feeds.{count_feeds}
use Rattle.text_lines.proofs.feeds.few_feeds.Given as goal

abbrev pub invariant-bytes : goal.invariant-bytes
invariant-bytes l = record { count : l.count ≡ count_feeds (take l.at l.bytes); few : l.count ≤ l.at }
