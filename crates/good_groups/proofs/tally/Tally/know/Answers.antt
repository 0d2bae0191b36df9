use Rattle.std.proofs.Common.{◌∙◌, sym}
use Rattle.good_groups.proofs.Counting.{known_first, no_first}
use Rattle.good_groups.proofs.Rows.{line_tells}
use Rattle.good_groups.proofs.tally.Tally.know.Goals as goal

pub returns-clause-not : goal.returns-clause-not
returns-clause-not c = λ o left rows rest are next has.
    let r = c.args.rules.now in
    let t = c.args.self.now in
    let none = no_first o r.bound.now rows t.first (sym c.is_some.ensures ∙ c.if-is_some.false) has.first in
    known_first o r.bound.now t rows c.in_ok-refused_row.field-0 has
    (line_tells r c.args.line.now c.requires.begins c.requires.header next.cut c.requires.one o left t rows rest c.args.why c.in_ok-refused_row.field-0 are next has none c.requires.cause c.in_ok-refused_row.ensures)
