use Rattle.std.proofs.Common.{◌∙◌, ap, sym}
use Rattle.partial_agg.specs.Groups.{GroupsByKey}
use Rattle.part_run.specs.Carrying.{with_carried}
use Rattle.part_run.proofs.parts.add_list.Goals as goal

pub rows-preserved : goal.rows-preserved
rows-preserved c = ap (λ (m : GroupsByKey). with_carried m c.next.new.self) c.in_ok-add_values.ensures.ok ∙ sym (ap (with_carried c.rows.groups) c.in-Some.ensures.row) ∙ c.rows.invariant

pub returns : goal.returns
returns c = sym (ap (with_carried c.rows.groups) c.in_default.ensures.none) ∙ c.rows.invariant
