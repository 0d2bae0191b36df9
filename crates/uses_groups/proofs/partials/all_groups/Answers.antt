use Rattle.std.proofs.Common.{◌≡◌, ◌<◌, ◌+◌, ◌*◌, ◌^◌, ◌≤◌, ℕ, List, sym, subst, arith, drop, length, take, length-take, length-drop}
use Rattle.std.proofs.lemmas.Grind.{div_ceil_times}
use Rattle.std.proofs.lemmas.List.{take_all}
use Rattle.std.proofs.lemmas.List.Elements.{All-append, All-nil, All-same}
use Rattle.partial_agg.specs.Blocks.{Explains}
use Rattle.partial_agg.specs.Groups.{AreGroups}
use Rattle.partial_agg.specs.Rows.{IsAccepted, header_width}
use Rattle.row_blocks.specs.Blocks.{block_rows}
use Rattle.row_blocks.proofs.BlockRows.{length-block, rows_before-next, rows_before-place}
use Rattle.uses_groups.proofs.partials.all_groups.Goals as goal

pub add_block-requires-clause-block : goal.add_block-requires-clause-block
add_block-requires-clause-block c = omega (arith, c.count.ensures.rows, c.div_ceil-block-end.ensures, div_ceil_times c.count.result 256 (omega arith), c.loop-block-test.true)

pub loop-block-init : goal.loop-block-init
loop-block-init c = record { groups = c.new-groups.ensures.groups c.args.plan.now; accepted = All-nil (IsAccepted c.args.plan.now (header_width c.args.rows.now)) }

pub loop-block-preserved : goal.loop-block-preserved
loop-block-preserved c =
    let plan = c.args.plan.now in
    let records = c.args.rows.now in
    let block = c.loop-block.block in
    let before = take (256 * block) (drop 1 records) in
    let next = rows_before-next records block in
    let few : length before + 256 < 2 ^ 64 = omega (arith, length-take (256 * block) (drop 1 records), length-drop 1 records, c.requires.few) in
    record {
      groups = subst (λ (rows : List (List (List ℕ))). AreGroups plan rows c.add_block.new.self) (sym next) (c.in-Ok.ensures.groups before c.loop-block.invariant.accepted few c.loop-block.invariant.groups);
      accepted = All-same (IsAccepted plan (header_width records)) _ _ next (All-append (IsAccepted plan (header_width records)) before (block_rows records block) c.loop-block.invariant.accepted c.in-Ok.ensures.accepted);
    }

pub returns-in-Err-clause-first : goal.returns-in-Err-clause-first
returns-in-Err-clause-first c =
    let plan = c.args.plan.now in
    let records = c.args.rows.now in
    let block = c.loop-block.block in
    let stop = c.in-Err.ensures.stopped in
    let count = stop.count in
    let within : count ≤ 256 = omega (arith, stop.stops, length-block records block) in
    let at : 256 * block + 1 + count ≡ 256 * block + count + 1 = omega arith in (
      256 * block + count,
      All-same (IsAccepted plan (header_width records)) _ _ (rows_before-place records block count within)
          (All-append (IsAccepted plan (header_width records)) (take (256 * block) (drop 1 records)) (take count (block_rows records block)) c.loop-block.invariant.accepted stop.before.accepted),
      subst (λ (row : ℕ). Explains plan records row c.in-Err.why) at stop.explains,
    )

all_rows : (c : goal.After-loop-block) → take (256 * c.loop-block.block) (drop 1 c.args.rows.now) ≡ drop 1 c.args.rows.now
all_rows c = take_all _ _ (omega (arith, c.count.ensures.rows, c.div_ceil-block-end.ensures, div_ceil_times c.count.result 256 (omega arith), c.loop-block-test.false, length-drop 1 c.args.rows.now))

pub returns-clause-groups : goal.returns-clause-groups
returns-clause-groups c = subst (λ (rows : List (List (List ℕ))). AreGroups c.args.plan.now rows c.loop-block.groups) (all_rows c) c.loop-block.invariant.groups

pub returns-clause-accepted : goal.returns-clause-accepted
returns-clause-accepted c = All-same (IsAccepted c.args.plan.now (header_width c.args.rows.now)) _ _ (sym (all_rows c)) c.loop-block.invariant.accepted
