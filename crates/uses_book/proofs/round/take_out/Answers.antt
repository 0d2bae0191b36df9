use Rattle.std.proofs.Common.{◌∙◌, refl, sym, ap, subst}
use Rattle.std.specs.Prelude.{IsSome}
use Rattle.word_map.specs.WordMap.{at as word_at}
use Rattle.lock_book.proofs.Uses.{opens_at}
use Rattle.uses_book.proofs.round.take_out.Goals as goal

pub load-word-requires-clause-here : goal.load-word-requires-clause-here
load-word-requires-clause-here g c = let o = opens_at c.args.shelf.now 0 c.requires.own.1 in (c.in-Taken.ensures.output o.0 o.1).0 ∙ sym (c.requires.name o.0 o.1).0

pub load-word-requires-clause-owns : goal.load-word-requires-clause-owns
load-word-requires-clause-owns g c =
    let o = opens_at c.args.shelf.now 0 c.requires.own.1 in
    let e = ap (word_at c.in-Taken.part.words) (c.requires.name o.0 o.1).1 ∙ (c.in-Taken.ensures.output o.0 o.1).1 in
    subst (λ w. IsSome w) (sym e) refl

pub returns-in-Taken-clause-region : goal.returns-in-Taken-clause-region
returns-in-Taken-clause-region g c =
    let o = opens_at c.args.shelf.now 0 c.requires.own.1 in
    ap (λ p. p.region) c.load-word.ensures.same ∙ ((c.in-Taken.ensures.output o.0 o.1).0 ∙ sym (c.requires.name o.0 o.1).0)
