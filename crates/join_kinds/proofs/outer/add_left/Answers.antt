use Rattle.std.proofs.Common.{◌+◌, get_or, subst, sym, arith}
use Rattle.std.proofs.lemmas.List.{get_or_default}
use Rattle.join_pairs.specs.declared.pairs.Pair.{Pair}
use Rattle.join_kinds.proofs.Merging.{HasAdded, one_more}
use Rattle.join_kinds.proofs.outer.add_left.Goals as goal

pub loop-at-preserved : goal.loop-at-preserved
loop-at-preserved c =
    let pairs = c.args.pairs.now in
    let at = c.loop-at.at in
    let none : Pair = record { left = 0; right = 0 } in
    let p = get_or pairs at none in
    let low = c.loop-at-test.true in (
      omega (arith, low),
      subst (HasAdded pairs c.args.from c.args.row c.args.joined.now.items (at + 1)) (sym c.in_ok-push.ensures.items)
          (one_more pairs c.args.from c.args.row c.args.joined.now.items at p c.loop-at.joined.items low (get_or_default pairs at none p low) c.if-pairs-at.true c.loop-at.invariant.1),
    )
