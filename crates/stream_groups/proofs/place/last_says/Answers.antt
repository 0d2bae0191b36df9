use Rattle.std.proofs.Common.{◌≡◌, ◌∙◌, false, sym, true}
use Rattle.std.proofs.lemmas.Result.{IfOk-weaker}
use Rattle.stream_groups.proofs.place.last_says.Goals as goal

pub returns-then-is_last-clause-last : goal.returns-then-is_last-clause-last
returns-then-is_last-clause-last c = IfOk-weaker c.quote_says.result _ _ (λ said says _. says) c.quote_says.ensures

pub returns-then-is_last-clause-others : goal.returns-then-is_last-clause-others
returns-then-is_last-clause-others c = IfOk-weaker c.quote_says.result _ _ (λ said says unlike. let bad : true ≡ false = sym c.if-is_last.true ∙ unlike in cc bad) c.quote_says.ensures

pub returns-clause-last : goal.returns-clause-last
returns-clause-last c = λ yes. let bad : true ≡ false = sym yes ∙ c.if-is_last.false in cc bad

pub returns-clause-others : goal.returns-clause-others
returns-clause-others c = λ _. c.new.ensures.bytes
