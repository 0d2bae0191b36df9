use Rattle.std.proofs.Common.{◌<◌, ◌∙◌, ℕ, map, length, get_or, ap, sym, subst, arith}
use Rattle.std.proofs.lemmas.List.{get_or_default, length-map}
use Rattle.atomic_table.proofs.Lists.{at_index}
use Rattle.lock_book.specs.Shown.{number_of}
use Rattle.lock_book.proofs.Uses.{map_at}
use Rattle.page_cache.specs.Seats.{IsSeat}
use Rattle.page_cache.specs.declared.cache.Seat.{Seat}
use Rattle.page_cache.proofs.Lists.{map_map, read_at}
use Rattle.page_cache.proofs.run.Goals as goal

pub all_work-requires-clause-own : goal.all_work-requires-clause-own
all_work-requires-clause-own g c κs within = λ i s lt e. c.in_ok-cache.ensures.seats.each i s (at_index _ i s lt e)

-- the seats that come home are those that went out
pub entries_left-requires-clause-seats : goal.entries_left-requires-clause-seats
entries_left-requires-clause-seats g c =
    let seat_of = λ (d : Seat × ℕ). d.0 in
    let went = c.in_ok-cache.seats.items in
    let done = c.in_ok-done.done.items in
    let all = c.in_ok-cache.ensures.seats in
    let came = c.in_ok-done.ensures in
    let count = came.count in (
      map seat_of done,
      record {
        count = length-map done seat_of ∙ count ∙ all.count;
        each = λ k s at.
            let d = map_at seat_of done k s at in
            let r = read_at done k d.0 d.1 in
            subst (IsSeat c.in_ok-cache.cache) (ap seat_of (sym r.1) ∙ d.2) (came.own k d.0 (omega (arith, r.0, count))).0;
        numbers = λ k s at.
            let d = map_at seat_of done k s at in
            let r = read_at done k d.0 d.1 in
            let low : k < length went = omega (arith, r.0, count) in
            let was = get_or went k d.0.0 in
            ap (λ (z : Seat). number_of z.pass) (sym d.2 ∙ ap seat_of r.1) ∙ (came.own k d.0 low).1 ∙ all.numbers k was (at_index went k was low (get_or_default went k d.0.0 was low));
      },
      c.in_ok-passes.ensures ∙ sym (map_map seat_of (λ (s : Seat). s.pass) done),
    )
