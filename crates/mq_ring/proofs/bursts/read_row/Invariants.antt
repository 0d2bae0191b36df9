use Rattle.std.proofs.Common.{◌≡◌, ◌+◌, ◌++◌, ℕ, List, length}
use Rattle.region_rule.specs.Places.{row}
use Rattle.mq_ring.specs.Bursts.{HasWords}
use Rattle.mq_ring.proofs.bursts.read_row.Given as goal

abbrev pub invariant-loop-k : goal.invariant-loop-k
invariant-loop-k l = record {
  same : (l.seat.table_id ≡ l.fn.seat.table_id) × (l.seat.id ≡ l.fn.seat.id);
  read : (xs ys : List ℕ) × (length xs ≡ l.k) × (length ys + l.k ≡ l.words) × (l.fn.seat.me.1 ≡ row l.at (xs ++ ys)) × (l.seat.me ≡ (l.fn.seat.me.0, row (l.at + l.k) ys ++ row l.at xs)) × HasWords l.fn.out l.out l.from xs;
  len : length l.out ≡ length l.fn.out;
}
