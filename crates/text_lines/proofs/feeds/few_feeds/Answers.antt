use Rattle.std.proofs.Common.{◌<◌, arith, length, sym}
use Rattle.text_lines.proofs.Counts.{count_feed, count_none, count_other}
use Rattle.text_lines.proofs.feeds.few_feeds.Goals as goal
use Rattle.text_lines.proofs.feeds.few_feeds.Goals.{else-bytes-at-eq10, then-bytes-at-eq10}

pub bytes-init : goal.bytes-init
bytes-init c = record { count = sym count_none; few = omega arith }

pub bytes-preserved : goal.bytes-preserved
bytes-preserved c =
    let xs = c.args.bytes.now in
    let at = c.bytes.at in
    let low : at < length xs = omega (arith, c.bytes-test.true) in
    elim c.if-bytes-at-eq10.branch [
      | then-bytes-at-eq10 w ↦ record { count = omega (arith, count_feed xs at low w.if-bytes-at-eq10.true, c.bytes.invariant.count, w.count-is); few = omega (arith, c.bytes.invariant.few, w.count-is) }
      | else-bytes-at-eq10 w ↦ record { count = omega (arith, count_other xs at low w.if-bytes-at-eq10.false, c.bytes.invariant.count, w.count-is); few = omega (arith, c.bytes.invariant.few, w.count-is) }
    ]
