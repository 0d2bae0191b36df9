use Rattle.std.proofs.Common.{List, map, subst}
use Rattle.std.proofs.lemmas.List.Sorted.{IsPermutation-map}
use Rattle.std.specs.List.Sorted.{IsPermutation}
use Rattle.line_runs.specs.Entries.{Entry}
use Rattle.line_runs.specs.Order.{entry_at}
use Rattle.line_runs.proofs.Places.{entries_same}
use Rattle.line_runs.proofs.order.sort_lines.Goals as goal

-- numbers and the shared part as one fact
pub sort_numbered-requires : goal.sort_numbered-requires
sort_numbered-requires c = record { shared = c.args.shared.now; whole = c.requires; each = c.if-number_all.ensures.numbers }

pub returns-then-number_all-clause-same : goal.returns-then-number_all-clause-same
returns-then-number_all-clause-same c =
    let runs = c.args.runs.now in
    let mid = c.number_all.new.lines in
    let news = c.sort_numbered.new.lines in
    subst (λ (es : List Entry). IsPermutation es (map (entry_at runs) news)) (entries_same runs c.args.lines.now mid c.number_all.ensures.same) (IsPermutation-map (entry_at runs) mid news c.sort_numbered.ensures.same)

pub returns-clause-same : goal.returns-clause-same
returns-clause-same c =
    let runs = c.args.runs.now in
    let mid = c.number_all.new.lines in
    let news = c.sort_by_keys.new.lines in
    subst (λ (es : List Entry). IsPermutation es (map (entry_at runs) news)) (entries_same runs c.args.lines.now mid c.number_all.ensures.same) (IsPermutation-map (entry_at runs) mid news c.sort_by_keys.ensures.same)
