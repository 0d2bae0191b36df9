use Rattle.std.proofs.Common.{◌∙◌, sym}
use Rattle.text_lines.proofs.Openings.{may_place, no_first, no_may, no_may_place, opened_after, opened_first}
use Rattle.text_lines.proofs.quote.later_opening.Goals as goal

pub returns-then-ne : goal.returns-then-ne
returns-then-ne c = no_may c.args.text.now c.args.quote c.args.here c.args.last c.requires.here (no_may_place c.args.here (sym c.ne.ensures ∙ c.if-ne.true)) c.requires.last

pub returns-then-quote-eq0 : goal.returns-then-quote-eq0
returns-then-quote-eq0 c =
    opened_first c.args.text.now c.args.quote c.args.here c.requires.quote c.requires.here (may_place c.args.here (sym c.ne.ensures ∙ c.if-ne.false)) c.if-quote-eq0.true

pub returns-then-before-eq34 : goal.returns-then-before-eq34
returns-then-before-eq34 c = no_first c.args.text.now c.args.quote c.args.last c.if-quote-eq0.false c.if-before-eq34.true c.requires.last

pub returns : goal.returns
returns c =
    opened_after c.args.text.now c.args.quote c.args.here c.requires.quote c.requires.here (may_place c.args.here (sym c.ne.ensures ∙ c.if-ne.false)) c.if-quote-eq0.false c.if-before-eq34.false
