use Rattle.std.proofs.Common.{◌∙◌, ap, sym}
use Rattle.uses_table.specs.Texts.{after}
use Rattle.uses_table.proofs.InTurn.{made_in, one_in}
use Rattle.uses_table.proofs.replacing.ask_in.Goals as goal

pub unreachable-requires : goal.unreachable-requires
unreachable-requires c = made_in c.args.turn.now c.call_in.new.turn c.args.name.now c.args.call c.call_in.result c.requires.there c.call_in.ensures.event c.in_default.not-Done

pub returns-clause-before : goal.returns-clause-before
returns-clause-before c = c.in-Done.ensures.told.0

pub returns-clause-after : goal.returns-clause-after
returns-clause-after c = let told = c.in-Done.ensures.told in told.1 ∙ ap (λ text. after text c.args.call) (sym told.0)

pub returns-clause-made : goal.returns-clause-made
returns-clause-made c = one_in c.args.turn.now c.call_in.new.turn c.args.name.now c.args.call c.in-Done.reply c.in-Done.unused c.in-Done.freed c.in-Done.ensures.event
