use Rattle.std.proofs.Common.{◌≡◌, ◌<◌, ◌+◌, ◌-◌, ◌%◌, ℕ, List}
use Rattle.std.specs.FinMap as fin
use Rattle.lock_book.specs.Shown.{mine_of, seen_of}
use Rattle.dshash_parts.specs.Tables.{map_at}
use Rattle.page_cache.specs.Owned.{own_page}
use Rattle.page_cache.specs.Seats.{StaysSeat}
use Rattle.page_cache.proofs.calls.make_room.Given as goal

abbrev pub invariant-loop-seen : goal.invariant-loop-seen
invariant-loop-seen g l = record {
  seat : StaysSeat l.cache l.fn.seat l.seat;
  same : (n : List ℕ) → own_page (mine_of l.seat.pass) n ≡ own_page (mine_of l.fn.seat.pass) n;
  none : l.seat.tickets ≡ 0;
  hand : l.seat.hand ≡ (l.fn.seat.hand + l._seen) % 128;
  empty : (k : ℕ) → k < 128 → (k + 128 - l.fn.seat.hand) % 128 < l._seen → fin.len (map_at (seen_of l.seat.pass) k) ≡ 0;
}
