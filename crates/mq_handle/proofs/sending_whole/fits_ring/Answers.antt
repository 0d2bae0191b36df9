use Rattle.std.proofs.Common.{◌≤◌, ◌+◌, arith}
use Rattle.mq_handle.proofs.Filling.{length-frame}
use Rattle.mq_handle.proofs.Wholes.{at_most, not_above}
use Rattle.mq_handle.proofs.sending_whole.fits_ring.Goals as goal

pub returns-then-length-from-clause-yes : goal.returns-then-length-from-clause-yes
returns-then-length-from-clause-yes c = λ yes.
    let low : 1 + c.words_of.result ≤ c.words.result = at_most (1 + c.words_of.result) c.words.result yes in
    (omega (arith, c.if-length-from.true, c.from.ensures, c.max.ensures, c.len-length.ensures.count), omega (arith, low, length-frame c.args.message.now, c.words_of.ensures, c.len-length.ensures.count, c.words.ensures))

pub returns-then-length-from-clause-no : goal.returns-then-length-from-clause-no
returns-then-length-from-clause-no c = λ over fits.
    not_above (1 + c.words_of.result) c.words.result over (omega (arith, fits.1, length-frame c.args.message.now, c.words_of.ensures, c.len-length.ensures.count, c.words.ensures))
