use Rattle.std.proofs.Common.{◌≡◌, ◌+◌, ◌-◌, arith, drop, length, sym}
use Rattle.std.proofs.lemmas.List.{length-drop, length-take, take_rest}
use Rattle.text_lines.proofs.Counts.{count_none, count_on, count_rest}
use Rattle.text_lines.proofs.feeds.line_feeds.Goals as goal

pub stretches-init : goal.stretches-init
stretches-init c = record { within = omega arith; count = sym count_none; few = omega arith }

pub few_feeds-more-requires : goal.few_feeds-more-requires
few_feeds-more-requires c = omega (arith, length-take ((c.stretches.at + 192) - c.stretches.at) (drop c.stretches.at c.args.bytes.now))

pub overflow_add-count : goal.overflow_add-count
overflow_add-count c =
    let xs = c.args.bytes.now in
    let at = c.stretches.at in
    omega (arith, c.few_feeds-more.ensures.few, length-take ((at + 192) - at) (drop at xs), c.stretches.invariant.few, c.stretches-test.true)

pub stretches-preserved : goal.stretches-preserved
stretches-preserved c =
    let xs = c.args.bytes.now in
    let at = c.stretches.at in
    let front : (at + 192) - at ≡ 192 = omega arith in
    let more = rw front at c.few_feeds-more.ensures.count in
    let few = rw front at c.few_feeds-more.ensures.few in
    record {
      within = omega (arith, c.stretches-test.true, c.stretches.invariant.within);
      count = omega (arith, count_on xs at 192, more, c.stretches.invariant.count);
      few = omega (arith, few, length-take 192 (drop at xs), c.stretches.invariant.few);
    }

pub few_feeds-last-requires : goal.few_feeds-last-requires
few_feeds-last-requires c =
    let xs = c.args.bytes.now in
    let at = c.stretches.at in
    omega (arith, length-take (length xs - at) (drop at xs), c.stretches-test.false)

pub overflow_add-result : goal.overflow_add-result
overflow_add-result c =
    let xs = c.args.bytes.now in
    let at = c.stretches.at in
    let few = rw (take_rest xs at) at c.few_feeds-last.ensures.few in
    omega (arith, few, length-drop at xs, c.stretches.invariant.few, c.stretches.invariant.within)

pub returns-clause-count : goal.returns-clause-count
returns-clause-count c =
    let xs = c.args.bytes.now in
    let at = c.stretches.at in
    let rest = rw (take_rest xs at) at c.few_feeds-last.ensures.count in
    omega (arith, c.stretches.invariant.count, rest, count_rest xs at)

pub returns-clause-few : goal.returns-clause-few
returns-clause-few c =
    let xs = c.args.bytes.now in
    let at = c.stretches.at in
    let few = rw (take_rest xs at) at c.few_feeds-last.ensures.few in
    omega (arith, few, length-drop at xs, c.stretches.invariant.few, c.stretches.invariant.within)
