use Rattle.std.proofs.Common.{rules, arith, length-append, List, [], ◌∷◌, ◌≡◌, ◌∙◌, sym, ap, subst, ℕ, length}
use Rattle.scan_claim.specs.declared.view.Draws.{Draws}
use Rattle.scan_claim.specs.declared.claims.ClaimSeat.{ClaimSeat}
use mathlib.Core.Option.{some}
use lib.ListN.{get_elem?}
use Rattle.scan_claim.specs.Drawing.{drawn}
use Rattle.scan_claim.proofs.CounterSteps.{opens, splits}
use Rattle.scan_claim.proofs.Made.{IsMade, made_first, made_rest, each_snoc}
use Rattle.scan_claim.proofs.claims.Claims.new.Goals as goal

pub of_words-requires : goal.of_words-requires
of_words-requires c = opens _ _ (omega arith) (omega arith)

pub split_seat-next-requires : goal.split_seat-next-requires
split_seat-next-requires c = (c.loop-i.invariant.here, search rules, splits _ _ _ _)

pub new-requires : goal.new-requires
new-requires c =
    let e = c.split_seat-next.ensures in
    let i = c.loop-i.invariant in
    let is = made_first c.args.blocks c.args.callers c.loop-i._i c.loop-i.rest.me.0 c.split_seat-next.new.seat.me.0 c.loop-i-test.true i.view (ap (λ m. m.0) e.2) in
    (ap (λ m. m.1) e.2 ∙ i.free, ap (λ (v : Draws). v.lists) is)

pub loop-i-preserved : goal.loop-i-preserved
loop-i-preserved c =
    let e = c.split_seat-next.ensures in
    let i = c.loop-i.invariant in record {
      here = e.3 ∙ i.here;
      free = ap (λ m. m.1) e.4;
      view = made_rest c.args.blocks c.args.callers c.loop-i._i c.loop-i.rest.me.0 c.split_seat-next.result.me.0 c.loop-i-test.true i.view (ap (λ m. m.0) e.4);
      count = omega (arith, ap length c.in_ok-push.ensures.items, length-append {A = ClaimSeat});
      made =
          let is = made_first c.args.blocks c.args.callers c.loop-i._i c.loop-i.rest.me.0 c.split_seat-next.new.seat.me.0 c.loop-i-test.true i.view (ap (λ m. m.0) e.2) in
          let n = c.new.ensures.0 in
          subst (λ (xs : List ClaimSeat). (k : ℕ) (s : ClaimSeat) → get_elem? xs k ≡ some s → IsMade c.in_ok-table.table.shared.table_id c.args.blocks c.args.callers k s) (sym c.in_ok-push.ensures.items)
          (each_snoc (IsMade c.in_ok-table.table.shared.table_id c.args.blocks c.args.callers) c.loop-i.seats.items c.new.result i.made
          (ap (λ s. s.table_id) n ∙ (e.0 ∙ i.here), ap (λ s. s.me.0) n ∙ (is ∙ ap (λ (k : ℕ). drawn c.args.blocks c.args.callers k ([] ∷ [])) (sym i.count))));
    }
