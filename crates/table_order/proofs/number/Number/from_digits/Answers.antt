use Rattle.table_order.proofs.Values.{zeros-front}
use Rattle.table_order.proofs.number.Number.from_digits.Goals as goal

pub returns-clause-size : goal.returns-clause-size
returns-clause-size c = zeros-front c.args.whole.now c.without_zeros-whole.result.now c.args.part.now c.without_zeros-whole.ensures.zeros.0 c.without_zeros-whole.ensures.zeros.1
