use Rattle.std.proofs.Common.{◌∙◌, sym, ap}
use Rattle.word_map.specs.WordMap.{at as word_at}
use Rattle.uses_book.proofs.drawer.Drawer.take.Goals as goal

pub returns-in-Some-clause-fits : goal.returns-in-Some-clause-fits
returns-in-Some-clause-fits c = λ n region at. let h = c.args.self.now.same c.in-Some.part (sym c.in-Some.ensures.value) in (h.0 ∙ sym region, ap (word_at c.in-Some.part.words) at ∙ h.1)
