use Rattle.std.proofs.Common.{arith, ◌+◌, ◌%◌, ◌^◌}
use Rattle.lock_book.proofs.Moves.{advises, is_advice}
use Rattle.lock_book.proofs.news.count_news.Goals as goal

pub fetch_add-requires : goal.fetch_add-requires
fetch_add-requires g c = (c.requires.own, omega (arith, c.news_word.ensures, c.requires.word.0), advises _ _ _ _ _ _ _ _ _ (λ n. (n + 1) % 2 ^ 64) (is_advice c.args.at 2 _ c.news_word.ensures (omega arith) (omega arith)))
