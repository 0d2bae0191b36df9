use Rattle.std.proofs.Common.{sym, subst}
use Rattle.dshash_parts.specs.Tables.{Belongs}
use Rattle.c_records.specs.declared.shared.Shared.{Shared}
use Rattle.c_records.proofs.caller.Caller.try_count.Goals as goal

pub try_count-requires-clause-own : goal.try_count-requires-clause-own
try_count-requires-clause-own c κs = subst (λ (x : Shared). Belongs x.table c.self.inside.share.pass) (sym c.deref.ensures) c.self.invariant.own

pub invariant_of-self : goal.invariant_of-self
invariant_of-self c =
    let i = c.self.invariant in
    record { shared = i.shared; own = subst (λ (x : Shared). Belongs x.table c.try_count.new.pass) c.deref.ensures c.try_count.ensures.own; others = i.others; reserve = i.reserve; items = i.items; slices = i.slices }
