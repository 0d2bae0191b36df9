use Rattle.std.proofs.Common.{◌≡◌, ◌+◌, ◌∙◌, [], ◌∷◌, ap, arith, subst}
use Rattle.lock_book.specs.History.{StartsWith, row_at}
use Rattle.lock_book.specs.Ruled.{seen_at}
use Rattle.lock_book.specs.Shown.{Belongs, number_of, seen_of}
use Rattle.lock_book.proofs.Histories.{starts_refl}
use Rattle.lock_book.proofs.Closing.{one_row}
use Rattle.lock_book.proofs.Endings.{only_one}
use Rattle.lock_book.proofs.Uses.{is_here}
use Rattle.lock_book.proofs.joined.Joined.new.Goals as goal

pub into_seat-requires-clause-here : goal.into_seat-requires-clause-here
into_seat-requires-clause-here g c κs within = is_here c.args.shelf.now c.args.last c.requires.own

pub returns : goal.returns
returns g c =
    let w = c.into_seat.ensures in
    let last = c.args.last in
    let whole = c.into_seat.result in
    let first = ap (λ v. v.from) w.1 in record {
      table = w.0 ∙ c.requires.own.table;
      opens = ap (λ v. v.opens) w.1 ∙ c.requires.own.opens;
      count = omega (arith, first, c.requires.last);
      each = only_one (λ k p. Belongs c.args.shelf.now p) last c.requires.own;
      numbers = only_one (λ k p. number_of p ≡ whole.me.0.from + k) last (omega (arith, first));
      owns = one_row whole.me.0.owns w.3.owns ∙ ap (λ v. row_at v.owns 0 ∷ []) w.1;
      begins = λ k i p at. only_one (λ k p. StartsWith (seen_at whole.me.0 i) (seen_of p i)) last (subst (λ v. StartsWith (seen_at whole.me.0 i) (seen_at v i)) w.1 (starts_refl (seen_at whole.me.0 i))) k p at;
    }
