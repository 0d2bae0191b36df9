use Rattle.std.proofs.Common.{arith, subst, sym}
use Rattle.agg_table.specs.Shown.{use_in}
use Rattle.scan_claim.specs.Shown.{blocks_of, draws_of}
use Rattle.worker_run.proofs.Ends.{refused_row}
use Rattle.gather_run.specs.Leading.{IsKeeping}
use Rattle.gather_run.specs.Sharing.{SharesRest, StopsAt}
use Rattle.gather_run.specs.Did.{Answers}
use Rattle.gather_run.specs.BlockSteps.{BlockStep}
use Rattle.gather_run.specs.declared.GatherAnswer.{GatherAnswer}
use Rattle.gather_run.specs.declared.leading.Step.TheVariants.{Failed}
use Rattle.partial_agg.specs.declared.map.BlockAnswer.{BlockAnswer}
use Rattle.partial_agg.specs.declared.map.BlockAnswer.TheVariants as block
use Rattle.row_blocks.proofs.BlockRows.{length-block}
use Rattle.worker_run.proofs.First.{first_row}
use Rattle.gather_run.proofs.Parts.{keeping-block, keeping-late, keeping-rest, keeping_accepted}
use Rattle.gather_run.proofs.Shares.{where_ok}
use Rattle.gather_run.proofs.leading.lead_block.Goals as goal

pub returns-in_default-clause-step : goal.returns-in_default-clause-step
returns-in_default-clause-step g c tuples k =
    let plan = c.args.job.now.plan.now in
    let records = c.args.job.now.rows.now in
    let used = use_in c.args.seat.now in
    let shared = where_ok (SharesRest used (use_in c.share_rest.new.seat) c.args.kept.now c.args.groups.now c.share_rest.new.groups) c.share_rest.result c.if-is_err.ensures.negation c.share_rest.ensures.shared in
    let late = keeping-late plan records (blocks_of c.args.job.now.claims.now) (draws_of c.args.claim.now) (draws_of c.draw.new.claim) used tuples c.args.kept.now c.args.groups.now c.requires.job.blocks c.in_default.ensures.none k in
    (keeping-rest plan records (draws_of c.draw.new.claim) used (use_in c.share_rest.new.seat) tuples c.args.kept.now c.args.groups.now c.share_rest.new.groups late shared, c.in_default.ensures.spent)

pub returns-clause-step : goal.returns-clause-step
returns-clause-step g c tuples k =
    subst (λ ds. IsKeeping c.args.job.now.plan.now c.args.job.now.rows.now ds (use_in c.do_block.new.seat) tuples c.do_block.new.kept c.do_block.new.groups) (sym c.in-Some.ensures.drawn)
    (keeping-block c.args.job.now.plan.now c.args.job.now.rows.now (draws_of c.args.claim.now) c.in-Some.block (use_in c.args.seat.now) (use_in c.do_block.new.seat) tuples c.args.kept.now c.do_block.new.kept c.args.groups.now c.do_block.new.groups k c.in_default-do_block.ensures.accepted c.in_default-do_block.ensures.done)

pub returns-in-Err-clause-step : goal.returns-in-Err-clause-step
returns-in-Err-clause-step g c tuples k =
    by c.in-Err.why c.answer_of.result c.answer_of.ensures c.in-Err.ensures.stopped
  where
    After : GatherAnswer → Type 0
    After answer = BlockStep c.args.job.now.plan.now c.args.job.now.rows.now c.args.job.now.claims.now (draws_of c.draw.new.claim) (use_in c.do_block.new.seat) tuples c.do_block.new.kept c.do_block.new.groups (Failed answer)

    by : (why : BlockAnswer) (answer : GatherAnswer) → Answers why answer → StopsAt c.args.job.now.plan.now c.args.job.now.rows.now c.in-Some.block why → After answer
    by (block.Row row cause item) answer e s =
        subst After (sym e) (record {
          refused = refused_row c.args.job.now.plan.now c.args.job.now.rows.now c.in-Some.block row cause item s.before s.now s.stopped;
          first = λ alone.
              first_row c.args.job.now.plan.now c.args.job.now.rows.now (draws_of c.args.claim.now) (draws_of c.draw.new.claim) c.in-Some.block row s.stopped.count (c.requires.claim.1 alone) (c.draw.ensures.in_order alone)
              c.in-Some.ensures.drawn (keeping_accepted c.args.job.now.plan.now c.args.job.now.rows.now (draws_of c.args.claim.now) (use_in c.args.seat.now) tuples c.args.kept.now c.args.groups.now k) s.stopped.explains.0 (omega (arith, s.stopped.stops, length-block c.args.job.now.rows.now c.in-Some.block)) s.stopped.before.accepted;
        })
    by block.Memory answer e s = subst After (sym e) tt
