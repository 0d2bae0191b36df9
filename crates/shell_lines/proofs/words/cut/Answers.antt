use Rattle.shell_lines.proofs.Cuts.{cut-behind, cut-first, whole-behind, whole-first}
use Rattle.shell_lines.proofs.words.cut.Goals as goal

pub returns-in-Some-clause-first : goal.returns-in-Some-clause-first
returns-in-Some-clause-first c = cut-first c.args.text.now c.in-Some.at c.in-Some.ensures

pub returns-in-Some-clause-behind : goal.returns-in-Some-clause-behind
returns-in-Some-clause-behind c = cut-behind c.args.text.now c.in-Some.at c.in-Some.ensures

pub returns-in-None-clause-first : goal.returns-in-None-clause-first
returns-in-None-clause-first c = whole-first c.args.text.now c.in-None.ensures

pub returns-in-None-clause-behind : goal.returns-in-None-clause-behind
returns-in-None-clause-behind c = whole-behind c.args.text.now c.in-None.ensures
