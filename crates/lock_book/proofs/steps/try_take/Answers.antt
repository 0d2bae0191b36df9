use Rattle.std.proofs.Common.{arith, ◌≡◌}
use Rattle.std.proofs.lemmas.Bool.Decides.{nat_tests}
use Rattle.lock_book.proofs.Moves.{tries}
use Rattle.lock_book.proofs.steps.try_take.Goals as goal

pub compare_exchange-found-requires : goal.compare_exchange-found-requires
compare_exchange-found-requires g c = (c.requires.own.0, omega (arith, c.lock_word.ensures, c.requires.word.0), tries _ _ _ _ _ _ _ _ c.args.at _ _ c.lock_word.ensures (omega (arith, c.requires.own.1)) c.requires.free c.requires.place)

pub returns-clause-taken : goal.returns-clause-taken
returns-clause-taken g c = λ e. let free : c.compare_exchange-found.result ≡ 0 = grind (arith, nat_tests) in (c.compare_exchange-found.ensures.2 c.args.at c.lock_word.ensures).0 free

pub returns-clause-not_free : goal.returns-clause-not_free
returns-clause-not_free g c = λ e. (c.compare_exchange-found.ensures.2 c.args.at c.lock_word.ensures).1 (λ free. absurd (grind (arith, nat_tests)))
