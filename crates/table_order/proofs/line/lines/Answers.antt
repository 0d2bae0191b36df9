use Rattle.std.proofs.Common.{◌∙◌, ◌∷◌, [], ℕ, List, ap, map}
use Rattle.std.proofs.lemmas.List.{map-append}
use Rattle.std.specs.Borrow.{Bor}
use Rattle.table_order.proofs.Tables.{lines-end, lines-more, none-from, some-from}
use Rattle.table_order.proofs.line.lines.Goals as goal

abbrev bytes : Bor (List ℕ) → List ℕ
bytes line = line.now

pub loop-left-preserved : goal.loop-left-preserved
loop-left-preserved c table is =
    let so_far = c.loop-left.invariant table is in
    lines-more c.loop-left.left.now c.split_line.result.0.now c.split_line.result.1.now so_far.0 table (map bytes c.loop-left.lines.items) (map bytes c.push.new.self.items)
    (some-from _ c.is_empty.result c.is_empty.ensures c.loop-left-test.true) so_far.1 c.split_line.ensures.line c.split_line.ensures.both so_far.2
    (ap (map bytes) c.in_ok-push.ensures.items ∙ map-append bytes c.loop-left.lines.items (c.split_line.result.0 ∷ []))

pub returns : goal.returns
returns c table is =
    let so_far = c.loop-left.invariant table is in
    lines-end c.loop-left.left.now so_far.0 table (map bytes c.loop-left.lines.items) (none-from c.loop-left.left.now c.is_empty.result c.is_empty.ensures c.loop-left-test.false) so_far.1 so_far.2
