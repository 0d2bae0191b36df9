use Rattle.span_pools.proofs.Fits.{layout_fits}
use Rattle.span_pools.proofs.layout.layout_for.Goals as goal

pub returns-clause-fits : goal.returns-clause-fits
returns-clause-fits c = rw (c.from.ensures, c.class_bytes.ensures.size, c.from-2.ensures, c.from-3.ensures, c.objects_of.ensures.objects, c.front.ensures, c.mark_words.ensures) (layout_fits c.args.class c.args.first c.args.pages c.requires.class (rw c.objects_of.ensures.objects at c.objects_of.ensures.range.0) c.requires.place.0 c.requires.place.1)
