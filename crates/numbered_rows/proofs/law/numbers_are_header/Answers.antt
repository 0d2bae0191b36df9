use Rattle.numbered_rows.proofs.Behind.{numbers-are-header}
use Rattle.numbered_rows.proofs.law.numbers_are_header.Goals as goal

pub returns : goal.returns
returns c = numbers-are-header
