use Rattle.std.proofs.Common.{◌≡◌, ◌+◌, ◌++◌, ◌∙◌, ℕ, List, [], ap, drop, map}
use Rattle.std.specs.Global.{Vec}
use Rattle.state_head.specs.Words.{Keys}
use Rattle.state_range.specs.Ranges.{ranges_from}
use Rattle.state_ranges.specs.Parts.{bytes_of, ends_of}
use Rattle.state_ranges.proofs.Placing.{put_ends, put_none}
use Rattle.state_ranges.proofs.Rising.{next_range}
use Rattle.state_ranges.proofs.maps.ranges_between.Goals as goal

pub loop-at-preserved : goal.loop-at-preserved
loop-at-preserved c =
    let cuts = c.args.cuts.now in
    let all = ranges_from [] (map bytes_of cuts) in
    let olds = c.loop-at.ranges.items in
    let news = c.push.new.self.items in
    let low = c.loop-at.low.now in
    let high = c.as_slice-high.result.now in
    let put = put_ends olds news c.in_ok-next.next low high c.in_ok-push.ensures.items c.in_ok-next.ensures.low c.in_ok-next.ensures.high in
    let is : high ≡ c.index-cuts-at.result.items = c.as_slice-high.ensures.value in
    let here = next_range (map ends_of olds) all low high cuts c.loop-at.at c.index-cuts-at.result c.loop-at-test.true (is ∙ ap (λ (v : Vec ℕ). v.items) c.index-cuts-at.is) c.loop-at.invariant.0 in (
      ap (λ (ks : List Keys). ks ++ ranges_from high (map bytes_of (drop (c.loop-at.at + 1) cuts))) put ∙ here,
      put_none c.args.columns olds news c.in_ok-next.next c.in_ok-push.ensures.items c.in_ok-next.ensures.columns c.in_ok-next.ensures.none c.loop-at.invariant.1,
    )

pub returns-clause-none : goal.returns-clause-none
returns-clause-none c = put_none c.args.columns c.loop-at.ranges.items c.push-2.new.self.items c.in_ok-last.last c.in_ok-push-2.ensures.items c.in_ok-last.ensures.columns c.in_ok-last.ensures.none c.loop-at.invariant.1
