use Rattle.mq_ring.proofs.Advice.{advice_allows}
use Rattle.mq_ring.proofs.sleeping.advise.Goals as goal

pub store_as-requires-clause-allowed : goal.store_as-requires-clause-allowed
store_as-requires-clause-allowed c = advice_allows c.args.r.now c.args.seat.now.id c.args.word c.args.advice c.args.seat.now.me c.requires.idle c.requires.cell

pub returns : goal.returns
returns c = (c.store_as.ensures.seat.0, c.store_as.ensures.told)
