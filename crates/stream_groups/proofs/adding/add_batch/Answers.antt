use Rattle.std.proofs.Common.{◌≡◌, ◌<◌, ◌≤◌, ◌+◌, ◌^◌, ◌∙◌, All, List, ap, arith, length, length-append, min, subst, sym}
use Rattle.row_windows.specs.Stretch.{Stretch}
use Rattle.split_run.specs.Causes.{IsFirstOfAll}
use Rattle.split_run.specs.Hands.{most}
use Rattle.split_run.specs.Pieces.{HaveColumns, rows_of}
use Rattle.stream_groups.specs.Begins.{IsLined, feeds_of}
use Rattle.stream_groups.specs.Gathering.{HasGathered, TakesBatch, participants_of}
use Rattle.stream_groups.specs.Stops.{Restates}
use Rattle.stream_groups.proofs.Gathering.{all_accepted}
use Rattle.stream_groups.proofs.Refusals.{refused_tells}
use Rattle.stream_groups.proofs.adding.add_batch.Goals as goal

pub add_pieces-requires-clause-columns : goal.add_pieces-requires-clause-columns
add_pieces-requires-clause-columns g c κs within = subst (λ (ws : List Stretch). HaveColumns c.args.bound.now ws) (sym c.as_slice-pieces.ensures.value) c.requires.columns

pub add_pieces-requires-clause-pieces : goal.add_pieces-requires-clause-pieces
add_pieces-requires-clause-pieces g c κs within = omega (arith, c.requires.pieces, ap (λ (ws : List Stretch). length ws) c.as_slice-pieces.ensures.value)

pub add_pieces-requires-clause-some : goal.add_pieces-requires-clause-some
add_pieces-requires-clause-some g c κs within = omega (arith, c.requires.many, ap participants_of c.replace-old.ensures.value)

pub add_pieces-requires-clause-few : goal.add_pieces-requires-clause-few
add_pieces-requires-clause-few g c κs within = omega (arith, c.requires.many, c.requires.workers, ap participants_of c.replace-old.ensures.value)

-- ---- the reason, by the pieces of the batch

pub stop_of_block-stop-requires-clause-lines : goal.stop_of_block-stop-requires-clause-lines
stop_of_block-stop-requires-clause-lines g c = subst (All (IsLined c.args.plan.now.reading)) (sym c.as_slice-pieces.ensures.value) c.requires.lines

pub stop_of_block-stop-requires-clause-few : goal.stop_of_block-stop-requires-clause-few
stop_of_block-stop-requires-clause-few g c = subst (λ (ws : List Stretch). c.args.batch.now.before + feeds_of ws ≤ 2 ^ 60) (sym c.as_slice-pieces.ensures.value) c.requires.feeds

pub returns-in-Err-clause-why : goal.returns-in-Err-clause-why
returns-in-Err-clause-why g c =
    let query = c.args.plan.now in
    let bound = c.args.bound.now in
    let batch = c.args.batch.now in
    let pieces = batch.pieces.items in
    let added = c.args.added.now in
    let same = c.as_slice-pieces.ensures.value in
    let said = c.stop_of_block-stop.result in
    let cause : IsFirstOfAll bound pieces c.in-Err.why = subst (λ (ws : List Stretch). IsFirstOfAll bound ws c.in-Err.why) same c.in-Err.ensures.cause in
    let restated : Restates query.reading query.plan bound pieces added.count batch.before c.in-Err.why said =
    subst (λ (ws : List Stretch). Restates query.reading query.plan bound ws added.count batch.before c.in-Err.why said) same c.stop_of_block-stop.ensures in
    λ from left header rows is under has begins part.
    refused_tells query header bound is from left added.count rows batch.before pieces batch.next.rest c.in-Err.why said has.count c.requires.few c.in-Err.ensures.low begins part c.requires.lines
    (all_accepted bound (length header) rows added.gathered has.groups) under (cause header under) restated

pub returns-clause-added : goal.returns-clause-added
returns-clause-added g c =
    let bound = c.args.bound.now in
    let pieces = c.args.batch.now.pieces.items in
    let old = c.replace-old.result in
    let taken = c.replace-old.ensures.value in
    let done = c.in-Ok.done in
    let same = c.as_slice-pieces.ensures.value in
    let more : done.1 ≡ min (length (rows_of pieces)) most = subst (λ (ws : List Stretch). done.1 ≡ min (length (rows_of ws)) most) same c.in-Ok.ensures.count in
    let takes : TakesBatch bound pieces old done.0 = subst (λ (ws : List Stretch). TakesBatch bound ws old done.0) same c.in-Ok.ensures.rows in
    let sum = c.saturating_add-added.ensures in
    record {
      rows = λ header rows under has.
          let before : HasGathered bound (length header) rows old = subst (HasGathered bound (length header) rows) (sym taken) has.groups in
          let few : length rows + length (rows_of pieces) < 2 ^ 64 = omega (arith, has.count, c.requires.few, more, sum) in
          record { count = omega (arith, has.count, length-append rows (rows_of pieces), more, sum); groups = takes header rows under before few };
      many = c.in-Ok.ensures.many ∙ ap participants_of taken;
      few = omega (arith, sum);
    }
