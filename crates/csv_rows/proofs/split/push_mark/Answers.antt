use Rattle.std.proofs.Common.{◌≡◌, ◌≢◌, ◌⊎◌, true, ℕ, length, slice_index, inl, inr, rules}
use Rattle.std.specs.Prelude.{◌==◌}
use Rattle.std.proofs.lemmas.Bool.{cases_Bool, eqb-true}
use Rattle.csv_rows.specs.Splits.{is_separator}
use Rattle.csv_rows.proofs.Splits.{at-comma, at-line}
use Rattle.csv_rows.proofs.split.push_mark.Goals as goal
use Rattle.csv_rows.proofs.split.push_mark.Goals.{else-is_line-via-then-is_line+then-place-cursor+else-len-cursor, else-is_line-via-then-is_line+else-place-cursor, else-is_line-via-else-is_line}

comma-byte : (b : ℕ) → is_separator b ≡ true → b ≢ 10 → b ≡ 44
comma-byte b sep other = elim (cases_Bool (b == 44)) [ inl e ↦ eqb-true b 44 e | inr e ↦ absurd (other (eqb-true b 10 (rw e at sep))) ]

pub returns-then-not-is_line-clause-scan : goal.returns-then-not-is_line-clause-scan
returns-then-not-is_line-clause-scan c =
    let r = c.requires in
    let byte = comma-byte (slice_index c.args.text.now c.args.place) r.mark c.if-not-is_line.true in
    rw c.in_ok-push_end.ensures (at-comma c.args.text.now c.args.ends.now.items c.args.row_ends.now c.args.cursor.from c.args.cursor.first c.args.place r.lines r.scan r.low r.high byte r.before)

pub returns-clause-scan : goal.returns-clause-scan
returns-clause-scan c =
    let r = c.requires in
    let text = c.args.text.now in
    let ends = c.args.ends.now.items in
    let byte = c.if-not-is_line.false in
    let goes : (c.args.cursor.from ≢ c.args.place) ⊎ (length ends ≢ c.args.cursor.first) = elim c.else-is_line.branch [
      | else-is_line-via-then-is_line+then-place-cursor+else-len-cursor w ↦ let more : length ends ≢ c.args.cursor.first = search rules in inr more
      | else-is_line-via-then-is_line+else-place-cursor w ↦ let more : c.args.cursor.from ≢ c.args.place = search rules in inl more
      | else-is_line-via-else-is_line w ↦ absurd (w.if-is_line.false byte)
    ] in
    let end : c.len-first.result ≡ length c.push_end.new.ends.items = search rules in
    rw (c.in_ok-push.ensures, end, c.in_ok-push_end.ensures) (at-line text ends c.args.row_ends.now c.args.cursor.from c.args.cursor.first c.args.place r.lines r.scan r.low r.high byte r.before goes)
