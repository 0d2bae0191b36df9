use Rattle.std.proofs.Common.{◌∙◌, ap, refl, sym, subst}
use Rattle.dshash_parts.specs.Tables.{Belongs}
use Rattle.c_records.specs.declared.shared.Share.{Share}
use Rattle.c_records.specs.declared.shared.Shared.{Shared}
use Rattle.c_records.specs.Looks.{Lists}
use Rattle.c_records.proofs.Looks.{found, short}
use Rattle.c_records.proofs.caller.Caller.try_list.Goals as goal

pub try_list-requires-clause-own : goal.try_list-requires-clause-own
try_list-requires-clause-own c κs = subst (λ (x : Shared). Belongs x.table c.self.inside.share.pass) (sym c.deref.ensures) c.self.invariant.own

pub write_listed-requires : goal.write_listed-requires
write_listed-requires c = record { short = short c.deref.result.now.table c.args.partition c.in-Ok.listed (ap (λ (x : Shared). x.table.key_words) c.deref.ensures ∙ c.self.invariant.shared.keys) c.in-Ok.ensures.keys }

pub returns : goal.returns
returns c =
    let after = record c.self.inside.share { pass = c.try_list.new.pass } in
    let wrote = c.write_listed in
    subst (λ (x : Share). Lists x after c.args.partition c.args.keys.now c.args.records.now wrote.new.keys wrote.new.records wrote.result.0 wrote.result.1) c.self.view_is
    (found c.self.inside.share after c.args.partition c.deref.result.now.table c.in-Ok.listed c.args.keys.now c.args.records.now wrote.new.keys wrote.new.records wrote.result.0 wrote.result.1 (record { rest = refl; caller = c.in-Ok.ensures.caller })
    (ap (λ (x : Shared). x.table.key_words) c.deref.ensures ∙ c.self.invariant.shared.keys) c.in-Ok.ensures.event c.in-Ok.ensures.all c.in-Ok.ensures.keys wrote.ensures.some wrote.ensures.none)

pub invariant_of-self : goal.invariant_of-self
invariant_of-self c =
    let i = c.self.invariant in
    record { shared = i.shared; own = subst (λ (x : Shared). Belongs x.table c.try_list.new.pass) c.deref.ensures c.try_list.ensures.own; others = i.others; reserve = i.reserve; items = i.items; slices = i.slices }

pub invariant_of-self-2 : goal.invariant_of-self-2
invariant_of-self-2 c =
    let i = c.self.invariant in
    record { shared = i.shared; own = subst (λ (x : Shared). Belongs x.table c.try_list.new.pass) c.deref.ensures c.try_list.ensures.own; others = i.others; reserve = i.reserve; items = i.items; slices = i.slices }
