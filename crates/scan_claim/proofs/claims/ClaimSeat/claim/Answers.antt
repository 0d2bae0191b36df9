use Rattle.std.proofs.Common.{rules, ◌∙◌, sym, arith, inr, refl}
use Rattle.scan_claim.specs.Drawing.{flat}
use Rattle.scan_claim.proofs.Seats.{not_spent, flat_after, one_after, order_after, few_after, spent_after, early_after, same_blocks, same_callers, same_from}
use Rattle.scan_claim.proofs.claims.ClaimSeat.claim.Goals as goal

pub draw_one-number-requires : goal.draw_one-number-requires
draw_one-number-requires c = record {
  own = (c.requires.0, search rules);
  early = (c.args.self.now.one, not_spent c.args.self.now.seat.me.0.blocks (flat c.args.self.now.seat.me.0.lists) (sym c.if-self.false ∙ c.args.self.now.ended));
}

pub invariant_of-self : goal.invariant_of-self
invariant_of-self c =
    let d = c.draw_one-number.ensures.view in record {
      free = c.draw_one-number.ensures.slots ∙ c.args.self.now.free;
      one = one_after d;
      in_order = order_after d;
      few = few_after d;
      ended = c.if-self.false ∙ early_after d _ (sym (same_blocks d)) (sym c.if-self.false ∙ c.args.self.now.ended) (omega (arith, c.requires.1, same_blocks d, c.if-number-claims.true));
    }

pub invariant_of-self-else-number-claims : goal.invariant_of-self-else-number-claims
invariant_of-self-else-number-claims c =
    let d = c.draw_one-number.ensures.view in record {
      free = c.draw_one-number.ensures.slots ∙ c.args.self.now.free;
      one = one_after d;
      in_order = order_after d;
      few = few_after d;
      ended = spent_after d _ (sym (same_blocks d)) (sym c.if-self.false ∙ c.args.self.now.ended) (omega (arith, c.requires.1, same_blocks d, c.if-number-claims.false));
    }

pub returns-then-number-claims-clause-same : goal.returns-then-number-claims-clause-same
returns-then-number-claims-clause-same c = let e = c.draw_one-number.ensures in
    ((e.own ∙ c.requires.0, same_blocks e.view ∙ c.requires.1, same_callers e.view ∙ c.requires.2), same_from e.view)

pub returns-then-number-claims-clause-drawn : goal.returns-then-number-claims-clause-drawn
returns-then-number-claims-clause-drawn c = (c.if-number-claims.true, flat_after c.draw_one-number.ensures.view)

pub returns-then-number-claims-clause-none : goal.returns-then-number-claims-clause-none
returns-then-number-claims-clause-none c =
    let here = early_after c.draw_one-number.ensures.view _ c.requires.1 (sym c.if-self.false ∙ c.args.self.now.ended) c.if-number-claims.true in
    ((λ h. absurd (cc)), λ h. absurd (cc))

pub returns-then-number-claims-clause-in_order : goal.returns-then-number-claims-clause-in_order
returns-then-number-claims-clause-in_order c = λ alone. let d = c.draw_one-number.ensures.view in order_after d (same_callers d ∙ (c.requires.2 ∙ alone))

pub returns-else-number-claims-clause-same : goal.returns-else-number-claims-clause-same
returns-else-number-claims-clause-same c = let e = c.draw_one-number.ensures in
    ((e.own ∙ c.requires.0, same_blocks e.view ∙ c.requires.1, same_callers e.view ∙ c.requires.2), same_from e.view)

pub returns-else-number-claims-clause-too_many : goal.returns-else-number-claims-clause-too_many
returns-else-number-claims-clause-too_many c = inr (c.draw_one-number.result, c.if-number-claims.false, flat_after c.draw_one-number.ensures.view)

pub returns-else-number-claims-clause-none : goal.returns-else-number-claims-clause-none
returns-else-number-claims-clause-none c =
    let here = spent_after c.draw_one-number.ensures.view _ c.requires.1 (sym c.if-self.false ∙ c.args.self.now.ended) c.if-number-claims.false in
    ((λ _. sym here), λ _. refl)

pub returns-else-number-claims-clause-in_order : goal.returns-else-number-claims-clause-in_order
returns-else-number-claims-clause-in_order c = λ alone. let d = c.draw_one-number.ensures.view in order_after d (same_callers d ∙ (c.requires.2 ∙ alone))

pub returns-then-number-claims-clause-few : goal.returns-then-number-claims-clause-few
returns-then-number-claims-clause-few c = let d = c.draw_one-number.ensures.view in omega (arith, few_after d, same_blocks d ∙ c.requires.1, same_callers d ∙ c.requires.2)

pub returns-else-number-claims-clause-few : goal.returns-else-number-claims-clause-few
returns-else-number-claims-clause-few c = let d = c.draw_one-number.ensures.view in omega (arith, few_after d, same_blocks d ∙ c.requires.1, same_callers d ∙ c.requires.2)
