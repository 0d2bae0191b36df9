use Rattle.std.proofs.Common.{◌∙◌, ◌++◌, List, ℕ, ap}
use Rattle.shown_text.specs.Shown.{shown_after}
use Rattle.table_form.proofs.sizes.put_cell.Goals as goal

pub returns : goal.returns
returns c = c.in_ok-put_escaped.ensures ∙ ap (λ (t : List ℕ). t ++ shown_after 0 c.args.field.now) c.clear.ensures.bytes
