use Rattle.result_text.proofs.PartTexts.{parts_answer}
use Rattle.result_text.proofs.laws.parts_answer.Goals as goal

pub returns : goal.returns
returns c = parts_answer
