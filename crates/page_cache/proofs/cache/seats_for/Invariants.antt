use Rattle.std.proofs.Common.{◌≡◌, ◌+◌, ℕ, [], length}
use Rattle.std.specs.Vec.Iter.{into_iter_items}
use mathlib.Core.Option.{some}
use lib.ListN.{get_elem?}
use Rattle.lock_book.specs.Shown.{mine_of, number_of, seen_of}
use Rattle.dsa_area.specs.Shown.{Belongs as AreaBelongs}
use Rattle.chunk_table.specs.Tables.{Belongs, callers_of}
use Rattle.page_cache.specs.Seats.{IsSeat}
use Rattle.page_cache.specs.declared.cache.Seat.{Seat}
use Rattle.page_cache.proofs.cache.seats_for.Given as goal

abbrev pub invariant-loop-pass : goal.invariant-loop-pass
invariant-loop-pass l =
    let left = into_iter_items l.pass-iterator in
    record {
      seats : (k : ℕ) (s : Seat) → get_elem? l.seats.items k ≡ some s → IsSeat l.cache s × (number_of s.pass ≡ k) × ((i : ℕ) → (seen_of s.pass i ≡ []) × (mine_of s.pass i ≡ []));
      still : (k : ℕ) (p : _) → get_elem? left k ≡ some p → Belongs l.cache.table p × (number_of p ≡ length l.seats.items + k) × ((i : ℕ) → (seen_of p i ≡ []) × (mine_of p i ≡ []));
      area_own : (k : ℕ) (p : _) → get_elem? l.apasses.items k ≡ some p → AreaBelongs l.cache.area p;
      alike : length l.apasses.items ≡ length left;
      count : length l.seats.items + length left ≡ callers_of l.cache.table;
    }
