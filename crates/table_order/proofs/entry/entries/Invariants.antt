use Rattle.std.proofs.Common.{◌≡◌, ℕ, List, map}
use Rattle.std.specs.List.{range_with_len}
use Rattle.csv.specs.Writing.{default_writer, row_text}
use Rattle.table_order.specs.Entries.{AreEntries}
use Rattle.table_order.proofs.entry.entries.Given as goal

abbrev pub invariant-loop-at : goal.invariant-loop-at
invariant-loop-at l = record {
  rows : map (λ entry. entry.at) l.entries.items ≡ range_with_len 0 l.at;
  entries : (rows : List (List (List ℕ))) → map (λ line. line.now) l.lines ≡ map (row_text default_writer) rows → AreEntries l.order rows l.entries.items;
}
