use Rattle.std.proofs.Common.{arith, ◌+◌, ◌-◌, ◌%◌, ◌^◌}
use Rattle.lock_book.proofs.Moves.{advises, is_advice}
use Rattle.lock_book.proofs.news.end_sleep.Goals as goal

pub fetch_sub-requires : goal.fetch_sub-requires
fetch_sub-requires g c = (c.requires.own, omega (arith, c.readers_word.ensures, c.requires.word.0), advises _ _ _ _ _ _ _ _ _ (λ n. (n + (2 ^ 64 - 1)) % 2 ^ 64) (is_advice c.args.at 3 _ c.readers_word.ensures (omega arith) (omega arith)))
