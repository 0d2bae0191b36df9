use Rattle.std.proofs.Common.{None}
use Rattle.dshash_parts.proofs.Owners.{lawful}
use Rattle.lock_book.specs.Shown.{number_of, seen_of}
use Rattle.uses_table.proofs.Calls.{owns, refused_puts, run_leaves, text_told}
use Rattle.uses_table.specs.Texts.{may, stepped}
use Rattle.uses_table.proofs.cache.ask.Goals as goal

pub returns-clause-stands : goal.returns-clause-stands
returns-clause-stands g c = text_told (number_of c.args.pass.now) c.args.name.now c.args.call (seen_of c.call.new.pass) c.call.result (λ i few. lawful stepped may i _ (c.call.ensures.own.stands.lawful i _ (c.requires.table.parts i few))) c.call.ensures.last

pub returns-clause-refused : goal.returns-clause-refused
returns-clause-refused g c = refused_puts c.args.area.now _ _ _ _ _ c.args.name.now c.args.call c.call.result c.call.ensures.refused

pub returns-clause-own_stands : goal.returns-clause-own_stands
returns-clause-own_stands g c = run_leaves None _ _ (c.call.ensures.owned c.args.name.now (owns (number_of c.args.pass.now) c.args.name.now c.requires.owner))
