use Rattle.std.proofs.Common.{◌≡◌, ◌≤◌, ◌-◌, length, take}
use Rattle.text_lines.specs.Feeds.{count_feeds}
use Rattle.text_lines.proofs.feeds.line_feeds.Given as goal

abbrev pub invariant-stretches : goal.invariant-stretches
invariant-stretches l = record { within : l.at ≤ length l.bytes; count : l.count ≡ count_feeds (take l.at l.bytes); few : l.count ≤ l.at }

abbrev pub decreases-stretches : goal.decreases-stretches
decreases-stretches l = length l.bytes - l.at
