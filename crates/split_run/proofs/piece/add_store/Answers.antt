use Rattle.std.proofs.Common.{◌≡◌, ◌≤◌, ◌+◌, ◌*◌, ◌++◌, ◌∷◌, ◌∙◌, [], All, ap, arith, length, suc, subst}
use Rattle.scan_claim.specs.Drawing.{below}
use Rattle.partial_agg.specs.Groups.{with_rows}
use Rattle.partial_agg.specs.Rows.{IsAccepted, header_width}
use Rattle.row_blocks.specs.Blocks.{Table}
use Rattle.row_blocks.proofs.BlockRows.{rows_all}
use Rattle.split_run.proofs.Blocks.{accepted_more, added_more, stopped_cause}
use Rattle.split_run.proofs.piece.add_store.Goals as goal

pub returns-in-Err-clause-refused : goal.returns-in-Err-clause-refused
returns-in-Err-clause-refused c = stopped_cause c.args.plan.now c.args.rows.now c.loop-block.block c.loop-block.groups c.add_block.new.self c.in-Err.why c.in-Err.ensures.stopped

pub loop-block-preserved : goal.loop-block-preserved
loop-block-preserved c =
    let plan = c.args.plan.now in
    let rows = c.args.rows.now in
    let b = c.loop-block.block in
    let up : b + 1 ≡ suc b = omega arith in
    let next : below (b + 1) ≡ below b ++ b ∷ [] = ap below up in
    record {
      added = added_more plan rows (below b) (below (b + 1)) b c.args.groups.now c.loop-block.groups c.add_block.new.self next c.loop-block.invariant.added c.in-Ok.ensures.added;
      accepted = accepted_more plan rows (below b) (below (b + 1)) b next c.loop-block.invariant.accepted c.in-Ok.ensures.accepted;
    }

pub returns-clause-added : goal.returns-clause-added
returns-clause-added c =
    let rows = c.args.rows.now in
    let b = c.loop-block.block in
    let all : length rows ≤ 256 * b + 1 = omega (arith, c.count_blocks-block-end.ensures.blocks.all) in
    c.loop-block.invariant.added ∙ ap (with_rows c.args.plan.now c.args.groups.now) (rows_all rows b all)

pub returns-clause-accepted : goal.returns-clause-accepted
returns-clause-accepted c =
    let rows = c.args.rows.now in
    let b = c.loop-block.block in
    let all : length rows ≤ 256 * b + 1 = omega (arith, c.count_blocks-block-end.ensures.blocks.all) in
    subst (λ (l : Table). All (IsAccepted c.args.plan.now (header_width rows)) l) (rows_all rows b all) c.loop-block.invariant.accepted
