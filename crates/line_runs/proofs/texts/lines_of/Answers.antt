use Rattle.std.proofs.Common.{◌≡◌, ◌++◌, ◌∙◌, ℕ, List, ap, append-nil, arith, drop, length, map, subst, sym, take}
use Rattle.std.proofs.lemmas.List.{drop_all, take_all}
use Rattle.std.specs.List.Sorted.{IsPermutation, IsSortedBy}
use Rattle.line_runs.specs.Entries.{Entry, comes_before}
use Rattle.line_runs.specs.Order.{entry_at}
use Rattle.line_runs.specs.Ranges.{entries_of}
use Rattle.line_runs.specs.declared.order.LineRef.{LineRef}
use Rattle.line_runs.proofs.texts.lines_of.Goals as goal

-- what the slice of all lines became are all lines
whole : (news olds : List LineRef) (len : ℕ) → length news ≡ length olds → len ≡ length olds → take len (news ++ drop (length news) olds) ≡ news
whole news olds len same all = ap (λ (rest : List LineRef). take len (news ++ rest)) (drop_all (length news) olds (omega (arith, same))) ∙ ap (take len) (append-nil news) ∙ take_all len news (omega (arith, same, all))

pub returns-clause-same : goal.returns-clause-same
returns-clause-same c =
    let runs = c.args.runs.now in
    let news = c.sort_range.new.lines in
    let olds = c.in_ok-found.found.lines.items in
    let long : length news ≡ length olds = omega (arith, c.sort_range.auto.lines, ap (length {A = LineRef}) c.as_mut_slice.ensures.value) in
    let all = whole news olds c.in_ok-found.found.lines.len long (omega (arith, c.in_ok-found.found.lines.ok.0)) in
    subst (λ (ls : List LineRef). IsPermutation (entries_of c.args.ranges.now runs c.args.range) (map (entry_at runs) ls)) (sym all)
    (subst (λ (es : List Entry). IsPermutation es (map (entry_at runs) news)) (ap (map (entry_at runs)) c.as_mut_slice.ensures.value ∙ c.in_ok-found.ensures) c.sort_range.ensures.same)

pub returns-clause-sorted : goal.returns-clause-sorted
returns-clause-sorted c =
    let runs = c.args.runs.now in
    let news = c.sort_range.new.lines in
    let olds = c.in_ok-found.found.lines.items in
    let long : length news ≡ length olds = omega (arith, c.sort_range.auto.lines, ap (length {A = LineRef}) c.as_mut_slice.ensures.value) in
    let all = whole news olds c.in_ok-found.found.lines.len long (omega (arith, c.in_ok-found.found.lines.ok.0)) in
    subst (λ (ls : List LineRef). IsSortedBy (comes_before c.args.ranges.now.columns) (map (entry_at runs) ls)) (sym all)
    c.sort_range.ensures.sorted
