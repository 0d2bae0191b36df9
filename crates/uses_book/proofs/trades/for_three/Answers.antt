use Rattle.std.proofs.Common.{◌∙◌, IsSome, ap, subst, sym}
use Rattle.word_map.specs.WordMap.{at as word_at}
use Rattle.region_words.specs.Parts.{Owned}
use Rattle.par_exchange.specs.Phases.{stage_from}
use Rattle.par_exchange.specs.declared.history.PartyStage.TheVariants.{Free}
use Rattle.par_exchange.proofs.Uses.{one_sign}
use Rattle.uses_book.proofs.Popped.{three}
use Rattle.uses_book.proofs.trades.for_three.Goals as goal

-- the exchange was made with the part that stays behind
pub returns-clause-open : goal.returns-clause-open
returns-clause-open c =
    let e = c.in_ok-exchange.ensures in
    record {
      made = (_, e.exchange);
      here = λ base is. ap (λ (p : Owned). p.region) (one_sign base _ c.in_ok-exchange.exchange is e.exchange) ∙ c.in_ok-region.ensures.last;
      three = e.parties;
    }

-- each pass is the one of its number, and has done nothing yet
pub returns-clause-zero : goal.returns-clause-zero
returns-clause-zero c =
    let e = c.in_ok-exchange.ensures in
    let at = (three _ _ _ _ _ _ _ c.in-Some.ensures.items c.in-Some-pop.ensures.items c.in-Some-pop-2.ensures.items (e.passes.count ∙ e.parties)).0 in
    let n = e.passes.numbers 0 c.in-Some-pop-2.first at in (
      record {
        own = e.passes.each 0 c.in-Some-pop-2.first at;
        free = ap (stage_from Free) (e.fresh 0 c.in-Some-pop-2.first at).1;
        here = c.in_ok-region.ensures.here.0;
        word = subst (λ k. IsSome (word_at c.in_ok-region.zero.words k)) (sym n) c.in_ok-region.ensures.words.0;
      },
      n,
    )

pub returns-clause-one : goal.returns-clause-one
returns-clause-one c =
    let e = c.in_ok-exchange.ensures in
    let at = (three _ _ _ _ _ _ _ c.in-Some.ensures.items c.in-Some-pop.ensures.items c.in-Some-pop-2.ensures.items (e.passes.count ∙ e.parties)).1 in
    let n = e.passes.numbers 1 c.in-Some-pop.second at in (
      record {
        own = e.passes.each 1 c.in-Some-pop.second at;
        free = ap (stage_from Free) (e.fresh 1 c.in-Some-pop.second at).1;
        here = c.in_ok-region.ensures.here.1;
        word = subst (λ k. IsSome (word_at c.in_ok-region.one.words k)) (sym n) c.in_ok-region.ensures.words.1;
      },
      n,
    )

pub returns-clause-two : goal.returns-clause-two
returns-clause-two c =
    let e = c.in_ok-exchange.ensures in
    let at = (three _ _ _ _ _ _ _ c.in-Some.ensures.items c.in-Some-pop.ensures.items c.in-Some-pop-2.ensures.items (e.passes.count ∙ e.parties)).2 in
    let n = e.passes.numbers 2 c.in-Some.third at in (
      record {
        own = e.passes.each 2 c.in-Some.third at;
        free = ap (stage_from Free) (e.fresh 2 c.in-Some.third at).1;
        here = c.in_ok-region.ensures.here.2;
        word = subst (λ k. IsSome (word_at c.in_ok-region.two.words k)) (sym n) c.in_ok-region.ensures.words.2;
      },
      n,
    )
