use Rattle.std.proofs.Common.{◌∙◌, ◌<◌, ℕ, Bool, List, ap, subst, sym}
use Rattle.par_exchange.proofs.Uses.{all_here}
use Rattle.par_exchange.specs.declared.history.PartyStage.TheVariants.{Elected}
use Rattle.uses_book.proofs.trades.bring.Goals as goal

-- nobody may leave, so each place has a part
pub give_out-requires-clause-all : goal.give_out-requires-clause-all
give_out-requires-clause-all g c =
    let made = c.requires.open.made in
    let three = c.requires.open.three in
    let count = rw c.in-Ok-Elected.field-0-is at c.in-Ok-Elected.ensures.one_each in
    let absent = rw c.in-Ok-Elected.field-0-is at c.in-Ok-Elected.ensures.absent in
    all_here 3 c.in-Ok-Elected.parts.items (count ∙ three) (λ k low gone. absent made.0 made.1 k (subst (λ (n : ℕ). k < n) (sym three) low) gone)

pub give_out-requires-clause-elected : goal.give_out-requires-clause-elected
give_out-requires-clause-elected g c =
    let made = c.requires.open.made in
    let three = c.requires.open.three in
    let count = rw c.in-Ok-Elected.field-0-is at c.in-Ok-Elected.ensures.one_each in
    let absent = rw c.in-Ok-Elected.field-0-is at c.in-Ok-Elected.ensures.absent in
    let stage = rw c.in-Ok-Elected.field-0-is at c.in-Ok-Elected.ensures.stage in
    let all = all_here 3 c.in-Ok-Elected.parts.items (count ∙ three) (λ k low gone. absent made.0 made.1 k (subst (λ (n : ℕ). k < n) (sym three) low) gone) in
    stage ∙ ap (λ (who : List Bool). Elected who) all

pub give_out-requires-clause-count : goal.give_out-requires-clause-count
give_out-requires-clause-count g c = (let count = rw c.in-Ok-Elected.field-0-is at c.in-Ok-Elected.ensures.one_each in count ∙ c.requires.open.three)
