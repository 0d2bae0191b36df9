use Rattle.std.proofs.Common.{◌≡◌, ◌+◌, ◌⊎◌, ℕ, arith, subst, sym}
use Rattle.partial_agg.specs.declared.map.BlockAnswer.{BlockAnswer}
use Rattle.stream_groups.specs.Stops.{IsRefusedRow, Restates}
use Rattle.stream_groups.specs.declared.stop.Stop.TheVariants as stop
use Rattle.stream_groups.proofs.rows.stop_of_block.Goals as goal

pub returns-in-Row : goal.returns-in-Row
returns-in-Row c =
    let plan = c.args.plan.now.plan in
    let bound = c.args.bound.now in
    let pieces = c.args.pieces.now in
    let feeds = c.args.feeds in
    let said = c.stop_of_row.result in
    let reading = c.args.plan.now.reading in
    subst (λ (a : BlockAnswer). Restates reading plan bound pieces c.args.before feeds a said) (sym c.in-Row.is)
    (λ small.
    let same : c.saturating_add.result ≡ c.args.before + c.in-Row.row = omega (arith, c.saturating_add.ensures, small) in
    subst (λ (n : ℕ). IsRefusedRow reading plan bound pieces n c.in-Row.row feeds (record { cause = c.in-Row.cause; item = c.in-Row.item }) said ⊎ (said ≡ stop.Memory)) same c.stop_of_row.ensures)
