use Rattle.std.proofs.Common.{◌≡◌, ◌≤◌, ◌*◌, ◌^◌, ◌≤ℤ◌, neg_ℤ, pos, take}
use Rattle.gen_query.specs.Totals.{all_rows, all_sums}
use Rattle.gen_query.proofs.summary.totals.Given as goal

abbrev pub invariant-groups : goal.invariant-groups
invariant-groups l = record {
  rows : l.rows ≡ all_rows (take l.at l.groups);
  sums : l.sum ≡ all_sums (take l.at l.groups);
  few : l.rows ≤ l.at * 2 ^ 32;
  low : neg_ℤ (pos (l.at * 2 ^ 95)) ≤ℤ l.sum;
  high : l.sum ≤ℤ pos (l.at * 2 ^ 95);
}
