use Rattle.std.proofs.Common.{◌≡◌, ◌+◌, ◌*◌, ◌∙◌, arith}
use Rattle.csv_rows.specs.Records.{record_at}
use Rattle.partial_agg.specs.Lanes.{states_in}
use Rattle.partial_agg.specs.Placed.{groups_at, places_of}
use Rattle.partial_agg.proofs.Blocks.{added_more}
use Rattle.row_blocks.proofs.BlockRows.{length-block}
use Rattle.partial_agg.proofs.run.add_near.Goals as goal

pub returns-then-not-add_known-clause-added : goal.returns-then-not-add_known-clause-added
returns-then-not-add_known-clause-added c = λ left sorted start is so_far.
    let same = c.if-not-add_known.ensures.unchanged in
    rw (same.0, same.1) (c.rows.invariant.added left sorted start is so_far)

pub rows-preserved : goal.rows-preserved
rows-preserved c =
    let plan = c.args.plan.now in
    let rows = c.args.rows.now in
    let layout = c.args.layout.now in
    let keys = c.args.keys.now in
    let at = c.rows.at in
    let inv = c.rows.invariant in
    let known = c.if-not-add_known.ensures in
    let long = length-block rows c.args.block in
    let row : c.find-row.result ≡ record_at rows (256 * c.args.block + 1 + at) = c.find-row.ensures in
    record {
      from = omega (arith, inv.from);
      within = omega (arith, c.rows-test.true);
      counts = known.counts ∙ inv.counts;
      lanes = known.lanes ∙ inv.lanes;
      added = λ left sorted start is so_far.
          added_more plan rows c.args.block at start (groups_at (places_of keys left) (states_in layout c.rows.counts c.rows.lanes)) (groups_at (places_of keys left) (states_in layout c.add_known.new.counts c.add_known.new.lanes))
          (omega (arith, c.rows-test.true, c.requires.few)) (omega (arith, c.rows-test.true, c.requires.rows, c.requires.few, long)) (inv.added left sorted start is so_far)
          (rw (← c.requires.width, ← row) known.accepted)
          (rw (← row) (known.added left sorted (rw inv.counts is)));
    }
