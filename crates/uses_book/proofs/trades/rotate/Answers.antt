use Rattle.std.proofs.Common.{◌≡◌, ◌∙◌, List, ap, replicate, subst, sym, true}
use Rattle.std.specs.Prelude.{Option}
use Rattle.std.specs.List.{swap}
use Rattle.region_words.specs.Parts.{Owned}
use Rattle.par_exchange.specs.Legal.{Each}
use Rattle.par_exchange.specs.States.{who}
use Rattle.uses_book.specs.Trading.{gives}
use Rattle.uses_book.proofs.Rotated.{rotated, rotated_all}
use Rattle.uses_book.proofs.trades.rotate.Goals as goal

pub returns-clause-all : goal.returns-clause-all
returns-clause-all c =
    let items = c.swap-2.ensures.items ∙ ap (λ (ps : List (Option Owned)). swap ps 1 2) c.swap.ensures.items in
    subst (λ (ps : List (Option Owned)). who ps ≡ replicate 3 true) (sym items) (rotated_all c.args.parts.now.items c.requires.count c.requires.all)

pub returns-clause-each : goal.returns-clause-each
returns-clause-each c = λ base f.
    let items = c.swap-2.ensures.items ∙ ap (λ (ps : List (Option Owned)). swap ps 1 2) c.swap.ensures.items in
    subst (Each (gives base)) (sym items) (rotated base c.args.parts.now.items c.requires.count f)
