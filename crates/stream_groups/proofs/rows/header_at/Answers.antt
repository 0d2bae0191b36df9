use Rattle.std.proofs.Common.{◌∷◌, ◌∙◌, [], ap}
use Rattle.std.proofs.lemmas.Result.{IfOk-weaker}
use Rattle.csv_rows.specs.Readings.{records_as}
use Rattle.csv_rows.specs.Records.{record_at}
use Rattle.row_blocks.specs.Blocks.{Table}
use Rattle.row_windows.specs.Stretch.{Stretch}
use Rattle.stream_groups.specs.Begins.{IsLined, no_stretch, piece_at}
use Rattle.stream_groups.proofs.Found.{same_there}
use Rattle.stream_groups.proofs.rows.header_at.Goals as goal

pub returns : goal.returns
returns c =
    let pieces = c.args.pieces.now in
    let at = c.args.at in
    let reading = c.args.plan.now.reading in
    let there = same_there pieces at c.index-pieces-at.result c.requires.within c.index-pieces-at.is in
    let lined : IsLined reading (piece_at pieces at) = c.requires.lines at no_stretch c.requires.within in
    IfOk-weaker c.header_line.result _ _ (λ line is header under.
    is ∙ (ap (λ (w : Stretch). records_as reading w.header) there ∙ (lined.one ∙ ap (λ (l : Table). record_at l 0 ∷ []) (under at no_stretch c.requires.within)))) c.header_line.ensures
