use Rattle.std.proofs.Common.{arith}
use Rattle.lock_book.proofs.Moves.{advises, is_advice}
use Rattle.lock_book.proofs.steps.advise.Goals as goal

pub store-requires : goal.store-requires
store-requires g c = (c.requires.own, omega (arith, c.sleep_word.ensures, c.requires.word.0), advises _ _ _ _ _ _ _ _ _ (λ _. c.args.advice) (is_advice c.args.at 1 _ c.sleep_word.ensures (omega arith) (omega arith)))
