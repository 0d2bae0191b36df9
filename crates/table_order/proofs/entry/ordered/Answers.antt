use Rattle.std.proofs.Common.{◌≡◌, ◌∙◌, ◌<◌, All, ap, ℕ, length, map, rules, subst, sym}
use Rattle.std.proofs.lemmas.Fn.{always_returns_same}
use Rattle.std.proofs.lemmas.List.{length-map}
use Rattle.std.proofs.lemmas.List.Sorted.{All-permutation, ranks_by}
use Rattle.std.specs.List.{range_with_len}
use Rattle.std.specs.Ordering.{is_lt}
use Rattle.csv.specs.Writing.{default_writer, row_text}
use Rattle.table_order.specs.Entries.{IsOrderedText, entries_cmp, line_at}
use Rattle.table_order.specs.declared.entry.Entry.{Entry}
use Rattle.table_order.proofs.Sorted.{ats-within, bytes, entries-total, if-ok-more, ordered-rows}
use Rattle.table_order.proofs.entry.ordered.Goals as goal

pub lines_of-requires : goal.lines_of-requires
lines_of-requires c =
    subst (All (λ (entry : Entry). entry.at < length c.args.lines.now)) (sym c.as_slice.ensures.value)
    (All-permutation (λ (entry : Entry). entry.at < length c.args.lines.now) _ _ c.sort_unstable_by.ensures.permutation (ats-within c.in_ok-entries.entries.items (length c.args.lines.now) c.in_ok-entries.ensures.rows))

pub returns : goal.returns
returns c =
    let order = c.args.order in
    let lines = c.args.lines.now in
    let before = c.in_ok-entries.entries.items in
    let sorted = c.sort_unstable_by.ensures.sorted (λ (a b : Entry). is_lt (entries_cmp order a b)) (ranks_by (entries-total order) (λ (entry : Entry). entry)) (always_returns_same _ _ _ (λ a r f k. search rules)) in
    let within = All-permutation (λ (entry : Entry). entry.at < length lines) _ _ c.sort_unstable_by.ensures.permutation (ats-within before (length lines) c.in_ok-entries.ensures.rows) in
    if-ok-more c.lines_of.result _ _ c.lines_of.ensures (λ ordered shown rows is.
    let long : length lines ≡ length rows = sym (length-map lines bytes) ∙ ap length is ∙ length-map rows (row_text default_writer) in
    subst (IsOrderedText order rows) (sym (shown ∙ ap (map (line_at (map bytes lines))) c.as_slice.ensures.value))
    (ordered-rows order rows before _ (map bytes lines) (c.in_ok-entries.ensures.rows ∙ ap (range_with_len 0) long) (c.in_ok-entries.ensures.entries rows is) c.sort_unstable_by.ensures.permutation sorted is
    (subst (λ (n : ℕ). All (λ (entry : Entry). entry.at < n) c.sort_unstable_by.new.self.items) long within)))
