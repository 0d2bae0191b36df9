use Rattle.std.proofs.Common.{arith, get_or}
use Rattle.std.proofs.lemmas.List.{get_or_default}
use Rattle.std.proofs.lemmas.List.Edits.{map_over_more}
use Rattle.csv_rows.specs.Readings.{exchanged}
use Rattle.csv_rows.proofs.exchanging.exchange.Goals as goal

pub loop-at-preserved : goal.loop-at-preserved
loop-at-preserved c =
    let old = get_or c.loop-at.bytes c.loop-at.at 0 in
    rw c.exchanged.ensures (map_over_more (exchanged c.args.separator) c.args.bytes.now c.loop-at.bytes c.loop-at.at old c.loop-at-test.true c.loop-at.invariant (get_or_default c.loop-at.bytes c.loop-at.at 0 old (omega arith)))
