use Rattle.std.proofs.Common.{rules, arith, ◌≡◌, ◌∙◌, ◌++◌, [], List, map, sym, ap, ℕ, length, append-nil}
use Rattle.std.proofs.lemmas.Grind.{common_steps}
use mathlib.Core.Option.{some}
use lib.ListN.{get_elem?}
use Rattle.scan_claim.specs.declared.claims.ClaimSeat.{ClaimSeat}
use Rattle.scan_claim.specs.Shown.{Belongs, draws_of}
use Rattle.scan_claim.proofs.CounterSteps.{joins, counts}
use Rattle.scan_claim.proofs.Closing.{lists_step, left_front, left_last, drawn_all, all_drawn}
use Rattle.scan_claim.proofs.claims.Claims.close.Goals as goal

pub unreachable-requires : goal.unreachable-requires
unreachable-requires c =
    let len : length c.args.seats.items ≡ 0 = (let f = c.in_default.ensures.rest in search (rules, common_steps)) in
    omega (arith, c.requires.0, c.args.self.some_caller)

pub loop-one-init : goal.loop-one-init
loop-one-init c =
    let e = c.in-Some.ensures.items in
    let w = c.into_seat-whole.ensures in
    let P : ClaimSeat → _ = Belongs c.args.self in
    let h = λ (k : ℕ) (s : ClaimSeat) (at : get_elem? c.args.seats.items k ≡ some s). (c.requires.1 k s at).0 in
    let b = left_last P c.args.seats.items c.pop.new.self.items c.in-Some.last e h in record {
      here = ap (λ s. s.table_id) w.0 ∙ b.0;
      free = w.1;
      for_blocks = ap (λ s. s.me.0.blocks) w.0 ∙ b.1;
      callers = ap (λ s. s.me.0.callers) w.0 ∙ b.2;
      lists = ap (λ (m : List (List ℕ)). map draws_of c.pop.new.self.items ++ m) (sym (append-nil c.into_seat-whole.result.me.0.lists))
          ∙ (lists_step c.args.seats.items c.pop.new.self.items c.in-Some.last c.into_seat-whole.result.me.0.lists [] e (ap (λ s. s.me.0.lists) w.0) w.2 ∙ append-nil _);
      left = left_front P c.args.seats.items c.pop.new.self.items c.in-Some.last e h;
    }

pub join_seat-requires : goal.join_seat-requires
join_seat-requires c =
    let e = c.in-Some-pop.ensures.items in
    let w = c.into_seat-seat.ensures in
    let i = c.loop-one.invariant in
    let b = left_last (Belongs c.args.self) c.loop-one.seats.items c.pop-in-loop-one.new.self.items c.in-Some-pop.one e i.left in
    (ap (λ s. s.table_id) w.0 ∙ b.0, i.here, i.free, search rules, joins _ _ _ _ _ _ (omega (arith, w.2)))

pub loop-one-preserved : goal.loop-one-preserved
loop-one-preserved c =
    let e = c.in-Some-pop.ensures.items in
    let w = c.into_seat-seat.ensures in
    let i = c.loop-one.invariant in
    let j = c.join_seat.ensures in
    let b = left_last (Belongs c.args.self) c.loop-one.seats.items c.pop-in-loop-one.new.self.items c.in-Some-pop.one e i.left in record {
      here = j.0 ∙ (ap (λ s. s.table_id) w.0 ∙ b.0);
      free = ap (λ m. m.1) j.2 ∙ w.1;
      for_blocks = ap (λ m. m.0.blocks) j.2 ∙ (ap (λ s. s.me.0.blocks) w.0 ∙ b.1);
      callers = ap (λ m. m.0.callers) j.2 ∙ (ap (λ s. s.me.0.callers) w.0 ∙ b.2);
      lists = ap (λ m. map draws_of c.pop-in-loop-one.new.self.items ++ m.0.lists) j.2
          ∙ (lists_step c.loop-one.seats.items c.pop-in-loop-one.new.self.items c.in-Some-pop.one c.into_seat-seat.result.me.0.lists c.loop-one.whole.me.0.lists e (ap (λ s. s.me.0.lists) w.0) w.2 ∙ i.lists);
      left = left_front (Belongs c.args.self) c.loop-one.seats.items c.pop-in-loop-one.new.self.items c.in-Some-pop.one e i.left;
    }

pub load-requires : goal.load-requires
load-requires c = (c.loop-one.invariant.here, search rules, counts _ _ _ _ _)

pub returns-clause-lists : goal.returns-clause-lists
returns-clause-lists c = search rules

pub returns-clause-drawn : goal.returns-clause-drawn
returns-clause-drawn c =
    let i = c.loop-one.invariant in
    let e = c.load.ensures in
    (c.load.result, all_drawn c.args.seats.items c.loop-one.whole.me.0 c.load.new.seat.me.0 _ _ c.load.result (returns-clause-lists c) c.requires.0 c.args.self.some_caller i.callers i.for_blocks e.2.1 e.2.2)

pub returns-clause-all : goal.returns-clause-all
returns-clause-all c = λ k s at h x l. let d = returns-clause-drawn c in drawn_all _ d.0 _ _ d.1 (returns-clause-lists c) k s at h x l
