use Rattle.std.proofs.Common.{◌≡◌, ◌<◌, ◌+◌, ◌*◌, ◌^◌, ◌++◌, List, ℕ, arith, drop, length, length-drop, length-take, sym, take, subst}
use Rattle.std.proofs.lemmas.Grind.{div_ceil_times}
use Rattle.std.proofs.lemmas.List.{take_all}
use Rattle.std.proofs.lemmas.List.Elements.{All-append, All-nil, All-same}
use Rattle.partial_agg.specs.Groups.{AreGroups}
use Rattle.partial_agg.specs.Rows.{IsAccepted, header_width}
use Rattle.row_blocks.specs.Blocks.{block_rows}
use Rattle.group_query.proofs.Blocks.{NamesRefused-stopped, block_more}
use Rattle.table_query.proofs.RefusedRows.{refused_in-none}
use Rattle.group_query.proofs.groups.groups_of.Goals as goal

pub loop-block-init : goal.loop-block-init
loop-block-init c = record { accepted = All-nil _; groups = c.new-groups.ensures.groups c.args.plan.now }

pub returns-in-Err-clause-first : goal.returns-in-Err-clause-first
returns-in-Err-clause-first c = NamesRefused-stopped c.args.plan.now c.args.rows.now c.loop-block.block _ _ c.in-Err.answer c.loop-block.invariant.accepted c.in-Err.ensures.stopped

pub loop-block-preserved : goal.loop-block-preserved
loop-block-preserved c =
    let rows = drop 1 c.args.rows.now in
    let front = take (256 * c.loop-block.block) rows in
    let block = block_rows c.args.rows.now c.loop-block.block in
    let more = block_more c.args.rows.now c.loop-block.block in
    let inv = c.loop-block.invariant in
    let fits : length front + 256 < 2 ^ 64 = omega (arith, length-take (256 * c.loop-block.block) rows, length-drop 1 c.args.rows.now, c.count.ensures.rows, c.count.ensures.few) in
    let P : List (List (List ℕ)) → Type 0 = λ l. AreGroups c.args.plan.now l c.add_block.new.self in
    record {
      accepted = All-same (IsAccepted c.args.plan.now (header_width c.args.rows.now)) _ (front ++ block) (sym more) (All-append (IsAccepted c.args.plan.now (header_width c.args.rows.now)) front block inv.accepted c.in-Ok.ensures.accepted);
      groups = subst P more (c.in-Ok.ensures.groups front inv.accepted fits inv.groups);
    }

-- the blocks are all the rows
abbrev all : (c : goal.After-into_groups) → take (256 * c.loop-block.block) (drop 1 c.args.rows.now) ≡ drop 1 c.args.rows.now
all c =
    let ends = div_ceil_times c.count.result 256 (omega arith) in
    take_all _ _ (omega (arith, ends.0, c.count.ensures.rows, c.div_ceil-block-end.ensures, c.loop-block-test.false, length-drop 1 c.args.rows.now))

pub returns-clause-groups : goal.returns-clause-groups
returns-clause-groups c =
    let P : List (List (List ℕ)) → Type 0 = λ l. AreGroups c.args.plan.now l c.loop-block.groups in
    (c.loop-block.groups, subst P (all c) c.loop-block.invariant.groups, c.into_groups.ensures)

pub returns-clause-none_refused : goal.returns-clause-none_refused
returns-clause-none_refused c =
    refused_in-none c.args.plan.now c.args.rows.now (All-same (IsAccepted c.args.plan.now (header_width c.args.rows.now)) _ _ (sym (all c)) c.loop-block.invariant.accepted)
