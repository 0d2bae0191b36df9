use Rattle.std.proofs.Common.{rules, arith, ◌≡◌, ◌∙◌, ◌++◌, sym, ap, subst, [], ◌∷◌, length, length-append, map, append-nil}
use Rattle.std.proofs.lemmas.Grind.{common_steps}
use mathlib.Core.Option.{some}
use lib.ListN.{get_elem?}
use Rattle.lock_book.specs.History.{StartsWith, row_at}
use Rattle.lock_book.specs.Ruled.{seen_at, view_of}
use Rattle.lock_book.specs.Shown.{seen_of}
use Rattle.lock_book.proofs.Histories.{starts_refl, starts_trans}
use Rattle.lock_book.proofs.Closing.{rows_step, one_row, left_front, left_last, last_only, from_last}
use Rattle.lock_book.proofs.gather.gather.Goals as goal

pub into_seat-whole-requires-clause-here : goal.into_seat-whole-requires-clause-here
into_seat-whole-requires-clause-here g c κs within =
    let last = left_last (λ k p. get_elem? c.args.passes.items k ≡ some p) c.args.passes.items c.pop.new.self.items c.in-Some.last c.in-Some.ensures.items (λ k p h. h) in
    (c.requires.passes (length c.pop.new.self.items) c.in-Some.last last).3

pub into_seat-seat-requires-clause-here : goal.into_seat-seat-requires-clause-here
into_seat-seat-requires-clause-here g c κs within =
    let at = c.loop-one.invariant.front (length c.pop-in-loop-one.new.self.items) c.in-Some-pop.one (left_last (λ k p. get_elem? c.loop-one.passes.items k ≡ some p) c.loop-one.passes.items c.pop-in-loop-one.new.self.items c.in-Some-pop.one c.in-Some-pop.ensures.items (λ k p h. h)) in
    (c.requires.passes _ _ at).3

pub loop-one-init : goal.loop-one-init
loop-one-init g c =
    let e = c.in-Some.ensures.items in
    let w = c.into_seat-whole.ensures in
    let front = left_front (λ k p. get_elem? c.args.passes.items k ≡ some p) c.args.passes.items c.pop.new.self.items c.in-Some.last e (λ k p h. h) in
    let last = left_last (λ k p. get_elem? c.args.passes.items k ≡ some p) c.args.passes.items c.pop.new.self.items c.in-Some.last e (λ k p h. h) in
    let b = c.requires.passes (length c.pop.new.self.items) c.in-Some.last last in record {
      here = w.0 ∙ b.0;
      free = w.2;
      from = ap (λ v. v.from) w.1 ∙ b.1;
      stage = w.3.stage;
      opens = ap (λ v. v.opens) w.1 ∙ b.2;
      rows = ap (λ m. map (λ p. row_at (view_of p.badge.views).owns 0) c.pop.new.self.items ++ m) (sym (append-nil c.into_seat-whole.result.me.0.owns))
          ∙ (rows_step (λ p. row_at (view_of p.badge.views).owns 0) c.args.passes.items c.pop.new.self.items c.in-Some.last c.into_seat-whole.result.me.0.owns [] e (one_row c.into_seat-whole.result.me.0.owns w.3.owns ∙ ap (λ v. row_at v.owns 0 ∷ []) w.1) ∙ append-nil _);
      front = front;
      seen = λ k p hi at i. last_only (λ p. StartsWith (seen_at c.into_seat-whole.result.me.0 i) (seen_of p i)) c.args.passes.items c.pop.new.self.items c.in-Some.last e
          (subst (λ v. StartsWith (seen_at c.into_seat-whole.result.me.0 i) (seen_at v i)) w.1 (starts_refl (seen_at c.into_seat-whole.result.me.0 i))) k p hi at;
    }

pub join_behind-requires-clause-own : goal.join_behind-requires-clause-own
join_behind-requires-clause-own g c κs within =
    let i = c.loop-one.invariant in
    let at = i.front (length c.pop-in-loop-one.new.self.items) c.in-Some-pop.one (left_last (λ k p. get_elem? c.loop-one.passes.items k ≡ some p) c.loop-one.passes.items c.pop-in-loop-one.new.self.items c.in-Some-pop.one c.in-Some-pop.ensures.items (λ k p h. h)) in
    let b = c.requires.passes _ _ at in
    (c.into_seat-seat.ensures.0 ∙ b.0, i.here, c.requires.words, i.free)

pub join_behind-requires-clause-free : goal.join_behind-requires-clause-free
join_behind-requires-clause-free g c κs within = (c.into_seat-seat.ensures.3, c.loop-one.invariant.stage)

pub join_behind-requires-clause-next : goal.join_behind-requires-clause-next
join_behind-requires-clause-next g c κs within =
    let i = c.loop-one.invariant in
    let e = c.in-Some-pop.ensures.items in
    let at = i.front (length c.pop-in-loop-one.new.self.items) c.in-Some-pop.one (left_last (λ k p. get_elem? c.loop-one.passes.items k ≡ some p) c.loop-one.passes.items c.pop-in-loop-one.new.self.items c.in-Some-pop.one e (λ k p h. h)) in
    let b = c.requires.passes _ _ at in
    omega (arith, i.from, ap length e, length-append c.pop-in-loop-one.new.self.items (c.in-Some-pop.one ∷ []), ap (λ v. v.from) c.into_seat-seat.ensures.1, b.1)

pub loop-one-preserved : goal.loop-one-preserved
loop-one-preserved g c =
    let e = c.in-Some-pop.ensures.items in
    let w = c.into_seat-seat.ensures in
    let i = c.loop-one.invariant in
    let j = c.join_behind.ensures in
    let at = i.front (length c.pop-in-loop-one.new.self.items) c.in-Some-pop.one (left_last (λ k p. get_elem? c.loop-one.passes.items k ≡ some p) c.loop-one.passes.items c.pop-in-loop-one.new.self.items c.in-Some-pop.one e (λ k p h. h)) in
    let b = c.requires.passes _ _ at in record {
      here = j.own.0 ∙ (w.0 ∙ b.0);
      free = j.own.1 ∙ w.2;
      from = j.view.1 ∙ (ap (λ v. v.from) w.1 ∙ b.1);
      stage = j.view.2;
      opens = j.view.0 ∙ (ap (λ v. v.opens) w.1 ∙ b.2);
      rows = ap (λ m. map (λ p. row_at (view_of p.badge.views).owns 0) c.pop-in-loop-one.new.self.items ++ m) j.owns
          ∙ (rows_step (λ p. row_at (view_of p.badge.views).owns 0) c.loop-one.passes.items c.pop-in-loop-one.new.self.items c.in-Some-pop.one c.into_seat-seat.result.me.0.owns c.loop-one.whole.me.0.owns e (one_row c.into_seat-seat.result.me.0.owns w.3.owns ∙ ap (λ v. row_at v.owns 0 ∷ []) w.1) ∙ i.rows);
      front = left_front (λ k p. get_elem? c.args.passes.items k ≡ some p) c.loop-one.passes.items c.pop-in-loop-one.new.self.items c.in-Some-pop.one e i.front;
      seen = λ k p hi at' n. from_last (λ k p. StartsWith (seen_at c.join_behind.new.seat.me.0 n) (seen_of p n)) c.args.passes.items c.loop-one.passes.items c.pop-in-loop-one.new.self.items c.in-Some-pop.one e at
          (subst (λ v. StartsWith (seen_at c.join_behind.new.seat.me.0 n) (seen_at v n)) w.1 (j.seen n).0)
          (λ k p hi' e'. starts_trans (seen_at c.join_behind.new.seat.me.0 n) (seen_at c.loop-one.whole.me.0 n) (seen_of p n) (j.seen n).1 (i.seen k p hi' e' n)) k p hi at';
    }

pub returns-clause-seen : goal.returns-clause-seen
returns-clause-seen g c = λ k p at i.
    let none : length c.loop-one.passes.items ≡ 0 = (let f = c.in_default-pop.ensures.rest in search (rules, common_steps)) in
    c.loop-one.invariant.seen k p (omega arith) at i
