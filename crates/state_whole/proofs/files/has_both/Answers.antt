use Rattle.std.proofs.Common.{◌∙◌, arith, sym}
use Rattle.std.proofs.lemmas.Bool.{true≢false}
use Rattle.state_whole.proofs.files.has_both.Goals as goal

pub returns-then-groups-eq0-clause-not_both : goal.returns-then-groups-eq0-clause-not_both
returns-then-groups-eq0-clause-not_both c = λ fails some. absurd (omega (arith, some, c.if-groups-eq0.true))

pub returns-clause-both : goal.returns-clause-both
returns-clause-both c = λ holds. (omega (arith, c.if-groups-eq0.false), sym c.has_refused.ensures ∙ holds)

pub returns-clause-not_both : goal.returns-clause-not_both
returns-clause-not_both c = λ fails some bad. true≢false (sym bad ∙ sym c.has_refused.ensures ∙ fails)
