use Rattle.std.proofs.Common.{vec_capacity, ap, ◌∙◌}
use Rattle.area_spares.proofs.Lists.{few_given, spares_filled}
use Rattle.area_spares.proofs.spares.Spares.refill.Goals as goal

pub returns-clause-spares : goal.returns-clause-spares
returns-clause-spares g c = spares_filled c.args.r.now c.args.self.now c.alloc_many.result c.requires.spares (c.alloc_many.ensures.capacity ∙ ap vec_capacity c.replace-empty.ensures.value)
    (few_given c.args.area.now c.args.pass.now c.alloc_many.new.pass c.args.self.now.class c.args.self.now.batch c.alloc_many.result.items c.alloc_many.ensures.given) c.alloc_many.ensures.chunks
