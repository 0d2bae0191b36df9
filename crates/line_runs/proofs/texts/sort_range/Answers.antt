use Rattle.std.proofs.Common.{ℕ, map, subst, sym}
use Rattle.std.proofs.lemmas.List.Sorted.{IsPermutation-map}
use Rattle.std.specs.List.Sorted.{IsSortedBy}
use Rattle.line_runs.specs.Entries.{comes_before}
use Rattle.line_runs.specs.Order.{IsWhole, entry_at}
use Rattle.line_runs.proofs.texts.sort_range.Goals as goal

pub sort_lines-requires : goal.sort_lines-requires
sort_lines-requires c = subst (λ (n : ℕ). IsWhole n c.shared.result) (sym c.columns-columns.ensures) c.shared.ensures

pub returns-then-columns-eq0-clause-same : goal.returns-then-columns-eq0-clause-same
returns-then-columns-eq0-clause-same c = IsPermutation-map (entry_at c.args.runs.now) c.args.lines.now c.sort_by_keys.new.lines c.sort_by_keys.ensures.same

pub returns-then-columns-eq0-clause-sorted : goal.returns-then-columns-eq0-clause-sorted
returns-then-columns-eq0-clause-sorted c = subst (λ (n : ℕ). IsSortedBy (comes_before n) (map (entry_at c.args.runs.now) c.sort_by_keys.new.lines)) c.columns-columns.ensures c.sort_by_keys.ensures.sorted

pub returns-clause-sorted : goal.returns-clause-sorted
returns-clause-sorted c = subst (λ (n : ℕ). IsSortedBy (comes_before n) (map (entry_at c.args.runs.now) c.sort_lines.new.lines)) c.columns-columns.ensures c.sort_lines.ensures.sorted
