use Rattle.std.proofs.Common.{◌≡◌, true, false, eq-eqb, sym, ◌∙◌}
use Rattle.span_pools.proofs.Covers.{place_offset}
use Rattle.span_pools.proofs.find.is_object.Goals as goal

pub returns-else-offset-layout-eq0-clause-no : goal.returns-else-offset-layout-eq0-clause-no
returns-else-offset-layout-eq0-clause-no c = λ e i low at_place. let z : true ≡ false = sym (eq-eqb _ 0 (place_offset c.args.layout c.args.page i c.args.place at_place)) ∙ e in cc
