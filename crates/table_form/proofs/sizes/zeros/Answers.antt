use Rattle.std.proofs.Common.{◌∙◌}
use Rattle.table_form.proofs.Widths.{zeros-are}
use Rattle.table_form.proofs.sizes.zeros.Goals as goal

pub returns : goal.returns
returns c = c.in_ok-resize.ensures.items ∙ zeros-are c.args.count _ c.new-sizes.result.items c.new-sizes.ensures.items c.new-sizes.ensures.len
