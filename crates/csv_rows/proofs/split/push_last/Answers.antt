use Rattle.std.proofs.Common.{◌≡◌, ◌≢◌, ◌⊎◌, ◌∷◌, ◌++◌, [], length, inl, inr, rules}
use Rattle.std.proofs.lemmas.Result.{on_ok_weaker}
use Rattle.csv_rows.specs.Splits.{IsWhole}
use Rattle.csv_rows.proofs.Splits.{at-end, at-last}
use Rattle.csv_rows.proofs.split.push_last.Goals as goal
use Rattle.csv_rows.proofs.split.push_last.Goals.{else-cursor-text-via-then-cursor-text+else-len-cursor, else-cursor-text-via-else-cursor-text}

pub returns-then-len-cursor : goal.returns-then-len-cursor
returns-then-len-cursor c =
    let end : c.args.cursor.from ≡ length c.args.text.now = search rules in
    let none : length c.args.ends.now.items ≡ c.args.cursor.first = search rules in
    at-end c.args.text.now c.args.ends.now.items c.args.row_ends.now c.args.cursor.from c.args.cursor.first c.requires.scan end none

pub returns : goal.returns
returns c =
    let text = c.args.text.now in
    let ends = c.args.ends.now.items in
    let goes : (c.args.cursor.from ≢ length text) ⊎ (length ends ≢ c.args.cursor.first) = elim c.else-cursor-text.branch [
      | else-cursor-text-via-then-cursor-text+else-len-cursor w ↦ let more : length ends ≢ c.args.cursor.first = search rules in inr more
      | else-cursor-text-via-else-cursor-text w ↦ let more : c.args.cursor.from ≢ length text = search rules in inl more
    ] in
    let end : c.len-2.result ≡ length c.push_end.new.ends.items = search rules in
    let whole = at-last text ends c.args.row_ends.now c.args.cursor.from c.args.cursor.first c.requires.lines c.requires.scan c.requires.before goes in
    on_ok_weaker {Q = IsWhole text c.push_end.new.ends.items c.push.new.self} _ (λ (e : c.push.new.self ≡ c.args.row_ends.now ++ (c.len-2.result ∷ [])). rw (e, end, c.in_ok-push_end.ensures) whole) c.push.ensures
