use Rattle.std.proofs.Common.{arith, subst, sym}
use Rattle.join_kinds.proofs.Merged.{IsMerged, merged_end, merged_next, merged_start}
use Rattle.join_kinds.proofs.outer.left_outer_join.Goals as goal

pub loop-row-init : goal.loop-row-init
loop-row-init c = (
  omega arith,
  omega arith,
  λ left right lc rc e n. subst (IsMerged left right lc rc c.args.pairs.now c.args.rows 0 0) (sym c.new-joined.ensures.items) (merged_start left right lc rc c.args.pairs.now c.args.rows n e),
)

pub loop-row-preserved : goal.loop-row-preserved
loop-row-preserved c =
    let low = c.loop-row-test.true in (
      omega (arith, low),
      c.in_ok-at.ensures.within,
      λ left right lc rc e n. merged_next left right lc rc c.args.pairs.now c.args.rows n c.loop-row.row c.loop-row.at c.in_ok-at.at c.loop-row.joined.items c.add_left.new.joined.items low
          (c.loop-row.invariant.2 left right lc rc e n) c.in_ok-at.ensures.place c.in_ok-at.ensures.added,
    )

pub returns : goal.returns
returns c = λ left right lc rc e n.
    merged_end left right lc rc c.args.pairs.now c.args.rows n c.loop-row.row c.loop-row.at c.loop-row.joined.items (omega (arith, c.loop-row.invariant.0, c.loop-row-test.false)) (c.loop-row.invariant.2 left right lc rc e n)
