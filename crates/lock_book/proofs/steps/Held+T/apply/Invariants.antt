use Rattle.std.proofs.Common.{◌++◌, ◌∷◌, [], unwrap_or}
use Rattle.lock_book.specs.History.{entry, made_of}
use Rattle.lock_book.proofs.steps.Held+T.apply.Given as goal

abbrev pub ghost-of : goal.ghost-of
ghost-of g a = λ x. x

abbrev pub ghost-of-2 : goal.ghost-of-2
ghost-of-2 g a = λ x. x

abbrev pub ghost-of-3 : goal.ghost-of-3
ghost-of-3 g a = λ x. g.T.Kept.state x

abbrev pub ghost-of-4 : goal.ghost-of-4
ghost-of-4 g a = let K = g.T.Kept in λ s. made_of s.0 ++ entry s.1 (unwrap_or (K.chosen s.2.value s.3.value) (K.call s.2.value)) (K.reply s.3.value) s.4.value ∷ []
