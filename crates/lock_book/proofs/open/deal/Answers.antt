use Rattle.std.proofs.Common.{arith, ◌≡◌, ◌∙◌, sym, ap, subst, ℕ, ◌<◌, length, length-append}
use mathlib.Core.Option.{some}
use lib.ListN.{get_elem?}
use Rattle.lock_book.specs.Ruled.{fresh_pass, view_of}
use Rattle.lock_book.proofs.Meets.{deals}
use Rattle.lock_book.proofs.Opening.{each_snoc, dealt_first, dealt_rest, dealt_some}
use Rattle.lock_book.proofs.open.deal.Goals as goal

pub split_seat-next-requires : goal.split_seat-next-requires
split_seat-next-requires g c = let i = c.loop-number.invariant in
    (i.here ∙ c.requires.own.0, c.requires.own.1, deals _ _ _ _ _ _ _ (ap (λ v. v.stage) i.view) (dealt_some c.args.whole.me.0.opens c.args.callers c.loop-number.number c.args.callers _ c.loop-number-test.true i.view))

pub new-requires-after_bounds : goal.new-requires-after_bounds
new-requires-after_bounds g c κs within =
    let i = c.loop-number.invariant in
    let e = c.split_seat-next.ensures in
    let is = dealt_first c.args.whole.me.0.opens c.args.callers c.loop-number.number c.args.callers c.loop-number.rest.me.0 c.split_seat-next.new.seat.me.0 c.loop-number-test.true i.view (ap (λ m. m.0) e.2) in
    (ap (λ m. m.1) e.2 ∙ i.free, record { owns = ap (λ v. length v.owns) is; stage = ap (λ v. v.stage) is }, ap (λ v. v.from) is)

pub loop-number-preserved : goal.loop-number-preserved
loop-number-preserved g c =
    let i = c.loop-number.invariant in
    let e = c.split_seat-next.ensures in
    let is = dealt_first c.args.whole.me.0.opens c.args.callers c.loop-number.number c.args.callers c.loop-number.rest.me.0 c.split_seat-next.new.seat.me.0 c.loop-number-test.true i.view (ap (λ m. m.0) e.2) in
    let n = c.new.ensures in record {
      here = e.3 ∙ i.here;
      free = ap (λ m. m.1) e.4;
      view = dealt_rest c.args.whole.me.0.opens c.args.callers c.loop-number.number c.args.callers c.loop-number.rest.me.0 c.split_seat-next.result.me.0 c.loop-number-test.true i.view (ap (λ m. m.0) e.4);
      room = omega (arith, i.room, c.push_reserved.ensures.len, c.push_reserved.ensures.capacity, c.loop-number-test.true);
      count = ap length c.push_reserved.ensures.items ∙ (length-append c.loop-number.passes.items _ ∙ omega (arith, i.count));
      made = subst (λ xs. (k : ℕ) (p : _) → get_elem? xs k ≡ some p → (p.badge.table_id ≡ c.args.whole.table_id) × (view_of p.badge.views ≡ fresh_pass c.args.whole.me.0.opens c.args.callers k 1) × (k < c.args.callers)) (sym c.push_reserved.ensures.items)
          (each_snoc (λ k p. (p.badge.table_id ≡ c.args.whole.table_id) × (view_of p.badge.views ≡ fresh_pass c.args.whole.me.0.opens c.args.callers k 1) × (k < c.args.callers)) c.loop-number.passes.items c.new.result i.made
          (n.0 ∙ (e.0 ∙ i.here), ap view_of n.1 ∙ (is ∙ ap (λ (k : ℕ). fresh_pass c.args.whole.me.0.opens c.args.callers k 1) (sym i.count)), omega (arith, i.count, c.loop-number-test.true)));
    }
