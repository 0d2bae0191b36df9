use Rattle.area_spares.proofs.Lists.{last_of_spares, spares_less}
use Rattle.std.proofs.Common.{[], ◌∷◌}
use Rattle.area_spares.proofs.spares.Spares.take_kept.Goals as goal

pub returns-clause-spares : goal.returns-clause-spares
returns-clause-spares c = λ region k.
    let last = last_of_spares region c.args.self.now c.pop.new.self.items c.in-Some.chunk k c.in-Some.ensures.items in
    (spares_less region c.args.self.now c.pop.new.self (c.in-Some.chunk ∷ []) k c.in-Some.ensures.capacity c.in-Some.ensures.items, last.0, last.1)
