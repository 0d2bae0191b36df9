use Rattle.std.proofs.Common.{ℕ, List, IfErr, IfOk, refl, subst}
use Rattle.dshash_numbers.specs.Maps.{IsMade, IsRefused}
use Rattle.dshash_numbers.specs.declared.table.NumberTable.{NumberTable}
use Rattle.dshash_numbers.proofs.Tables.{made, refused}
use Rattle.dshash_numbers.proofs.table.NumberTable.call.Goals as goal

pub returns-clause-made : goal.returns-clause-made
returns-clause-made g c =
    let t = c.args.self.now in
    let t' : NumberTable = record { table = t.table; pass = c.call.new.pass } in
    subst (λ (key : List ℕ). IfOk c.call.result (IsMade c.args.area.now t t' c.args.apass.now c.call.new.apass key c.args.call)) c.in-Some.ensures.key
    (made c.args.area.now t t' c.args.apass.now c.call.new.apass c.in-Some.key c.args.call refl c.requires.table.alone c.requires.table.own c.call.ensures.own c.call.ensures.caller c.call.result c.call.ensures.made)

pub returns-clause-refused : goal.returns-clause-refused
returns-clause-refused g c =
    let t = c.args.self.now in
    let t' : NumberTable = record { table = t.table; pass = c.call.new.pass } in
    subst (λ (key : List ℕ). IfErr c.call.result (λ lack. IsRefused c.args.area.now t t' c.args.apass.now c.call.new.apass key c.args.call lack.pages lack.largest)) c.in-Some.ensures.key
    (refused c.args.area.now t t' c.args.apass.now c.call.new.apass c.in-Some.key c.args.call refl c.requires.table.alone c.requires.table.own c.call.ensures.own c.call.ensures.caller c.call.result c.call.ensures.refused)
