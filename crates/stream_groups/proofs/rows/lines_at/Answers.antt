use Rattle.std.proofs.Common.{◌∙◌, ap}
use Rattle.row_windows.specs.Stretch.{Stretch}
use Rattle.stream_groups.proofs.Found.{same_there}
use Rattle.stream_groups.proofs.rows.lines_at.Goals as goal

pub returns : goal.returns
returns c = c.lines.ensures ∙ ap (λ (w : Stretch). w.lines) (same_there c.args.pieces.now c.args.at c.index-pieces-at.result c.requires c.index-pieces-at.is)
