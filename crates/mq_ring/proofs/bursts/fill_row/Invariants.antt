use Rattle.std.proofs.Common.{◌≡◌, ◌+◌, ◌<◌, ◌++◌, ℕ, List, length}
use Rattle.std.specs.List.{AllByRecursion}
use Rattle.region_rule.specs.Places.{row}
use Rattle.mq_ring.specs.Bursts.{words_from}
use Rattle.mq_ring.proofs.bursts.fill_row.Given as goal

abbrev pub invariant-loop-k : goal.invariant-loop-k
invariant-loop-k l = record {
  same : (l.seat.table_id ≡ l.fn.seat.table_id) × (l.seat.id ≡ l.fn.seat.id);
  out : (ys : List ℕ) × (length ys + l.k ≡ l.words) × (l.seat.me ≡ (l.fn.seat.me.0, row (l.at + l.k) ys ++ row l.at (words_from l.from l.k l.bytes)));
  fits : AllByRecursion (λ y. y < 18446744073709551616) (words_from l.from l.k l.bytes);
}
