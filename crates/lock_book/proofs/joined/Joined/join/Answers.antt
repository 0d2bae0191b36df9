use Rattle.std.proofs.Common.{◌≡◌, ◌+◌, ◌∙◌, [], ◌∷◌, ◌++◌, ap, arith, subst}
use Rattle.lock_book.specs.History.{StartsWith, row_at}
use Rattle.lock_book.specs.Ruled.{seen_at, view_of}
use Rattle.lock_book.specs.Shown.{Belongs, number_of, seen_of}
use Rattle.lock_book.proofs.Histories.{starts_trans}
use Rattle.lock_book.proofs.Closing.{one_row}
use Rattle.lock_book.proofs.Endings.{each_cons}
use Rattle.lock_book.proofs.Uses.{is_here}
use Rattle.lock_book.proofs.joined.Joined.join.Goals as goal

pub into_seat-seat-requires-clause-here : goal.into_seat-seat-requires-clause-here
into_seat-seat-requires-clause-here g c κs within = is_here c.args.shelf.now c.args.before c.requires.own

pub join_behind-requires-clause-own : goal.join_behind-requires-clause-own
join_behind-requires-clause-own g c κs within =
    let j = c.requires.joined in
    (c.into_seat-seat.ensures.0 ∙ c.requires.own.table, j.1.table, omega (arith, c.args.shelf.now.sized), c.args.self.free)

pub join_behind-requires-clause-free : goal.join_behind-requires-clause-free
join_behind-requires-clause-free g c κs within = (c.into_seat-seat.ensures.3, c.args.self.idle)

pub join_behind-requires-clause-next : goal.join_behind-requires-clause-next
join_behind-requires-clause-next g c κs within = omega (arith, c.requires.before, ap (λ v. v.from) c.into_seat-seat.ensures.1)

pub returns : goal.returns
returns g c = λ passes j.
    let w = c.into_seat-seat.ensures in
    let b = c.join_behind.ensures in
    let before = c.args.before in
    let whole = c.join_behind.new.seat in
    let first = b.view.1 ∙ ap (λ v. v.from) w.1 in record {
      table = b.own.0 ∙ (w.0 ∙ c.requires.own.table);
      opens = b.view.0 ∙ (ap (λ v. v.opens) w.1 ∙ c.requires.own.opens);
      count = omega (arith, first, c.requires.before, j.count);
      each = each_cons (λ k p. Belongs c.args.shelf.now p) before passes c.requires.own (λ k p at. j.each k p at);
      numbers = each_cons (λ k p. number_of p ≡ whole.me.0.from + k) before passes (omega (arith, first)) (λ k p at. omega (arith, j.numbers k p at, first, c.requires.before));
      owns = b.owns ∙ (ap (λ m. m ++ c.args.self.whole.me.0.owns) (one_row c.into_seat-seat.result.me.0.owns w.3.owns ∙ ap (λ v. row_at v.owns 0 ∷ []) w.1) ∙ ap (λ m. row_at (view_of before.badge.views).owns 0 ∷ m) j.owns);
      begins = λ k i p at. each_cons (λ k p. StartsWith (seen_at whole.me.0 i) (seen_of p i)) before passes
          (subst (λ v. StartsWith (seen_at whole.me.0 i) (seen_at v i)) w.1 (b.seen i).0)
          (λ k p at. starts_trans (seen_at whole.me.0 i) (seen_at c.args.self.whole.me.0 i) (seen_of p i) (b.seen i).1 (j.begins k i p at)) k p at;
    }
