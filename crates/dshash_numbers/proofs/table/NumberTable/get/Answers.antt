use Rattle.std.proofs.Common.{List, ℕ, refl, subst}
use Rattle.dshash_numbers.specs.Maps.{IsMade}
use Rattle.dshash_numbers.specs.declared.number.NumberCall.TheVariants.{Get}
use Rattle.dshash_numbers.specs.declared.table.NumberTable.{NumberTable}
use Rattle.dshash_numbers.proofs.Gets.{got}
use Rattle.dshash_numbers.proofs.table.NumberTable.get.Goals as goal

pub returns-clause-made : goal.returns-clause-made
returns-clause-made g c = λ area apass.
    let t = c.args.self.now in
    let t' : NumberTable = record { table = t.table; pass = c.find.new.pass } in
    subst (λ (key : List ℕ). IsMade area t t' apass apass key Get c.find.result) c.in-Some.ensures.key
    (got t t' c.in-Some.key refl c.requires.table.alone c.requires.table.own c.find.ensures.own c.find.ensures.caller c.find.result c.find.ensures.event area apass)
