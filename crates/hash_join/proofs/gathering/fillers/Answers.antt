use Rattle.std.proofs.Common.{◌≡◌, ◌∙◌, ℕ, List, [], All, arith, length, sym, subst}
use Rattle.std.proofs.lemmas.List.Elements.{All-push}
use Rattle.hash_join.specs.declared.filling.Filler.{Filler}
use Rattle.hash_join.proofs.Rounds.{all_made, one_more, room_next, same_next}
use Rattle.hash_join.proofs.gathering.fillers.Goals as goal

pub loop-claim-preserved : goal.loop-claim-preserved
loop-claim-preserved c =
    let was = c.loop-claim.invariant in
    let fs = c.loop-claim.fillers.items in
    let pushed = c.push_reserved.ensures.items in
    let claim = c.in-Some.ensures.steps.0 in
    let area = c.in-Some-next.ensures.cases.0 in
    let table = c.in-Some-next-2.ensures.cases.0 in
    record {
      areas = one_more (λ (f : Filler). f.area) fs _ _ _ _ _ pushed area was.areas;
      tables = one_more (λ (f : Filler). f.table) fs _ _ _ _ _ pushed table was.tables;
      claims = one_more (λ (f : Filler). f.claim) fs _ _ _ _ _ pushed claim was.claims;
      new = subst (All (λ (f : Filler). (f.links.items ≡ []) × (f.spilled.items ≡ []))) (sym pushed)
          (All-push (λ (f : Filler). (f.links.items ≡ []) × (f.spilled.items ≡ [])) fs _ was.new (c.new.ensures.items, c.new-in-loop-claim.ensures.items));
      many_areas = same_next _ _ _ _ _ _ area claim was.many_areas;
      many_tables = same_next _ _ _ _ _ _ table claim was.many_tables;
      room = room_next _ _ _ _ _ _ _ c.push_reserved.ensures.len c.push_reserved.ensures.capacity claim was.room;
    }

-- none is left
none_left : {X Y : Type 0} (left : List Y) (many : ℕ) (others : List X) → many ≡ length left → many ≡ 0 → length others ≡ length left → length others ≡ 0
none_left left many others m n e = omega (arith, m, n, e)

pub returns-clause-areas : goal.returns-clause-areas
returns-clause-areas c =
    let it = c.loop-claim.claim-iterator.rest in
    all_made (λ (f : Filler). f.area) _ _ _ (none_left it.items it.len c.loop-claim.areas.rest.items it.ok.0 c.in-None.ensures.steps.0 c.loop-claim.invariant.many_areas) c.loop-claim.invariant.areas

pub returns-clause-tables : goal.returns-clause-tables
returns-clause-tables c =
    let it = c.loop-claim.claim-iterator.rest in
    all_made (λ (f : Filler). f.table) _ _ _ (none_left it.items it.len c.loop-claim.tables.rest.items it.ok.0 c.in-None.ensures.steps.0 c.loop-claim.invariant.many_tables) c.loop-claim.invariant.tables

pub returns-clause-seats : goal.returns-clause-seats
returns-clause-seats c =
    all_made (λ (f : Filler). f.claim) _ _ _ (sym c.loop-claim.claim-iterator.rest.ok.0 ∙ c.in-None.ensures.steps.0) c.loop-claim.invariant.claims

pub returns-clause-new : goal.returns-clause-new
returns-clause-new c = c.loop-claim.invariant.new
