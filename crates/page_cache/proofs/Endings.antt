-- The end of a cache, to which all seats have come home, is a moment of it.
use Rattle.std.proofs.Common.{◌≡◌, ℕ, zero, suc, ◌<◌, List, [], ◌∷◌, map, length, refl, sym, ap, ◌∙◌, subst, arith}
use Rattle.std.proofs.lemmas.List.{length-map}
use mathlib.Core.Option.{some}
use lib.ListN.{get_elem?}
use Rattle.lock_book.specs.Shown.{number_of}
use Rattle.lock_book.proofs.Uses.{map_at as element_at, at_map}
use Rattle.chunk_table.specs.Ending.{Ended, whole_of}
use Rattle.chunk_table.specs.Tables.{AreAll, Belongs, callers_of, sight_of}
use Rattle.page_cache.specs.Moments.{IsMoment}
use Rattle.page_cache.specs.Pages.{stepped}
use Rattle.page_cache.specs.Seats.{AreSeats}
use Rattle.page_cache.specs.Tickets.{HasPaid}
use Rattle.page_cache.specs.declared.cache.Cache.{Cache}
use Rattle.page_cache.specs.declared.cache.Seat.{Seat}

-- the passes of all seats are those of the table
pub all_passes : (c : Cache) (seats : List Seat) → AreSeats c seats → AreAll c.table (map (λ (s : Seat). s.pass) seats)
all_passes c seats all = record {
  count = length-map seats (λ (s : Seat). s.pass) ∙ all.count;
  each = λ k p at. let s = element_at (λ (s : Seat). s.pass) seats k p at in subst (λ q. Belongs c.table q) s.2 (all.each k s.0 s.1).own;
  numbers = λ k p at. let s = element_at (λ (s : Seat). s.pass) seats k p at in ap number_of (sym s.2) ∙ all.numbers k s.0 s.1;
}

some_at : {A : Type 0} (xs : List A) (k : ℕ) → k < length xs → (a : A) × (get_elem? xs k ≡ some a)
some_at [] k low = absurd (omega arith)
some_at (x ∷ xs) zero low = (x, refl)
some_at (x ∷ xs) (suc k) low = some_at xs k (omega arith)

pub end_moment : (c : Cache) (seats : List Seat) → AreSeats c seats → (closed : _) → Ended stepped c.table (map (λ (s : Seat). s.pass) seats) closed → IsMoment c.area (callers_of c.table) c.share (whole_of closed)
end_moment c seats all closed ended = record {
  lawful = ended.lawful;
  no_others = λ i n low high. ended.no_others i n high;
  paid = λ n low.
      let count = all.count in
      let s = some_at seats n (omega (arith, count)) in (
        sight_of s.0.pass s.0.apass,
        s.0.tickets,
        subst (λ (z : ℕ). HasPaid c.area z c.share (sight_of s.0.pass s.0.apass) s.0.tickets) (all.numbers n s.0 s.1) (all.each n s.0 s.1).settled.paid,
        λ i few. ended.mine n i s.0.pass (at_map (λ (s : Seat). s.pass) seats n s.0 s.1),
      );
}
