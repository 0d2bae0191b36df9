-- Lines that are sorted by their numbers, and by their keys if these are equal, are sorted by their keys.
use Rattle.std.proofs.Common.{◌≡◌, ◌+◌, ◌∙◌, ℕ, List, ap, ap₂, arith, get_or, length, map, sym}
use Rattle.std.proofs.lemmas.Cmp.{nat_cmp_total, on_total, then_total}
use Rattle.std.proofs.lemmas.List.{get_or-map, length-map}
use Rattle.std.specs.Cmp.{IsTotalOrder}
use Rattle.std.specs.List.Sorted.{IsSortedBy}
use Rattle.std.specs.Ordering.{is_lt, nat_cmp, ordering_then}
use Rattle.std.specs.declared.cmp.Ordering.{Ordering}
use Rattle.par_model.specs.Table.{columns_cmp}
use Rattle.result_text.proofs.Columns.{columns_total}
use Rattle.line_runs.specs.Entries.{Entry, comes_before}
use Rattle.line_runs.specs.Order.{AreNumbered, columns_at, entry_at}
use Rattle.line_runs.specs.declared.order.LineRef.{LineRef}
use Rattle.line_runs.proofs.Whole.{same_order}

-- how lines with numbers compare
abbrev pub line_cmp : ℕ → List (List Entry) → LineRef → LineRef → Ordering
line_cmp count runs a b = ordering_then (nat_cmp a.number b.number) (columns_cmp (columns_at count runs a) (columns_at count runs b))

pub line_total : (count : ℕ) (runs : List (List Entry)) → IsTotalOrder (line_cmp count runs)
line_total count runs = then_total (on_total (λ (line : LineRef). line.number) nat_cmp_total) (on_total (columns_at count runs) columns_total)

abbrev none : LineRef
none = record { number = 0; run = 0; at = 0 }

-- lines in the order of their keys have entries in this order
pub sorted_entries : (count : ℕ) (runs : List (List Entry)) (lines : List LineRef) → IsSortedBy (λ a b. is_lt (columns_cmp (columns_at count runs a) (columns_at count runs b))) lines
    → IsSortedBy (comes_before count) (map (entry_at runs) lines)
sorted_entries count runs lines sorted = λ k d low lt.
    let long : length (map (entry_at runs) lines) ≡ length lines = length-map lines (entry_at runs) in
    ap₂ (comes_before count) (get_or-map (entry_at runs) lines (k + 1) none d (omega (arith, lt, long))) (get_or-map (entry_at runs) lines k none d (omega (arith, lt, long)))
    ∙ sorted k none low (omega (arith, lt, long))

-- the numbers give the same order
pub by_numbers : (count : ℕ) (runs : List (List Entry)) (lines : List LineRef) → AreNumbered count runs lines → IsSortedBy (λ a b. is_lt (line_cmp count runs a b)) lines
    → IsSortedBy (λ a b. is_lt (columns_cmp (columns_at count runs a) (columns_at count runs b))) lines
by_numbers count runs lines numbered sorted = λ k d low lt.
    let a : LineRef = get_or lines (k + 1) d in
    let b : LineRef = get_or lines k d in
    ap is_lt (sym (same_order count numbered.shared (entry_at runs a).0 (entry_at runs b).0 a.number b.number numbered.whole (numbered.each (k + 1) d lt) (numbered.each k d (omega (arith, lt)))))
    ∙ sorted k d low lt
