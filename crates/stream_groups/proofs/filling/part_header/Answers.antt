use Rattle.std.proofs.Common.{◌≡◌, ◌<◌, ◌≤◌, ◌++◌, ◌∙◌, ℕ, List, None, IfSome, ap, arith, drop, length, subst, sym, take}
use Rattle.std.specs.Prelude.{unwrap_or}
use Rattle.csv_rows.specs.Readings.{records_as}
use Rattle.csv_rows.specs.Records.{records_of}
use Rattle.csv_rows.proofs.Cleaned.{as-length}
use Rattle.row_windows.specs.Seams.{IsCutAt}
use Rattle.stream_groups.proofs.Streams.{front_one, front_records, parted_cut, parted_lined, parted_lines}
use Rattle.stream_groups.proofs.filling.part_header.Goals as goal

pub returns-in-Ok-clause-one : goal.returns-in-Ok-clause-one
returns-in-Ok-clause-one c =
    let lines = c.args.window.now.lines in
    let same : c.table-lines.result.now ≡ lines = c.table-lines.ensures ∙ ap (λ (h : List ℕ). h ++ lines) c.requires.none in
    let some : IfSome c.header_end.result (λ at. length (records_of (take at lines)) ≡ 1) = subst (λ (l : List ℕ). IfSome c.header_end.result (λ at. length (records_of (take at l)) ≡ 1)) same c.header_end.ensures.one in
    let none : c.header_end.result ≡ None → length (records_of lines) ≤ 1 = subst (λ (l : List ℕ). c.header_end.result ≡ None → length (records_of l) ≤ 1) same c.header_end.ensures.none in
    let front : take c.unwrap_or-at.result c.table-lines.result.now ≡ take (unwrap_or c.header_end.result (length lines)) lines =
    ap (λ n. take n c.table-lines.result.now) c.unwrap_or-at.ensures ∙ ap (λ (l : List ℕ). take (unwrap_or c.header_end.result (length l)) l) same in
    let reading = c.reading.result.now in
    let cut = take (unwrap_or c.header_end.result (length lines)) lines in
    let here : 0 < length (records_as reading cut) = subst (λ (l : List ℕ). 0 < length (records_as reading l)) front c.in-Ok.ensures.some in
    let more : 0 < length (records_of cut) = omega (arith, here, as-length reading cut) in
    ap length (c.in-Ok.ensures.records ∙ ap (records_as reading) front) ∙ (as-length reading cut ∙ front_one lines c.header_end.result some none more)

pub returns-in-Ok-clause-first : goal.returns-in-Ok-clause-first
returns-in-Ok-clause-first c =
    let lines = c.args.window.now.lines in
    let same : c.table-lines.result.now ≡ lines = c.table-lines.ensures ∙ ap (λ (h : List ℕ). h ++ lines) c.requires.none in
    let cut : IfSome c.header_end.result (IsCutAt lines) = subst (λ (l : List ℕ). IfSome c.header_end.result (IsCutAt l)) same c.header_end.ensures.cut in
    let reading = c.args.window.now.reading in
    let found = front_records reading lines c.header_end.result cut in
    let at : c.unwrap_or-at.result ≡ unwrap_or c.header_end.result (length lines) = c.unwrap_or-at.ensures ∙ ap (λ (l : List ℕ). unwrap_or c.header_end.result (length l)) same in
    let header : c.set_header.new.self.header ≡ take (unwrap_or c.header_end.result (length lines)) lines = c.set_header.ensures.header ∙ ap (λ n. take n lines) at in
    (found.0, found.1 ∙ ap (λ (h : List ℕ). records_as reading h ++ found.0) (sym header))

-- the lines begin with the end of a line, or there are none
pub returns-in-Ok-clause-front : goal.returns-in-Ok-clause-front
returns-in-Ok-clause-front c =
    let lines = c.args.window.now.lines in
    let now = c.set_header.new.self in
    let same : c.table-lines.result.now ≡ lines = c.table-lines.ensures ∙ ap (λ (h : List ℕ). h ++ lines) c.requires.none in
    let cut : IfSome c.header_end.result (IsCutAt lines) = subst (λ (l : List ℕ). IfSome c.header_end.result (IsCutAt l)) same c.header_end.ensures.cut in
    let at : c.unwrap_or-at.result ≡ unwrap_or c.header_end.result (length lines) = c.unwrap_or-at.ensures ∙ ap (λ (l : List ℕ). unwrap_or c.header_end.result (length l)) same in
    let parts = parted_lines lines c.header_end.result now cut (c.set_header.ensures.header ∙ ap (λ n. take n lines) at) (c.set_header.ensures.lines ∙ ap (λ n. drop n lines) at) in
    parted_cut now parts

pub returns-in-Ok-clause-lined : goal.returns-in-Ok-clause-lined
returns-in-Ok-clause-lined c =
    let lines = c.args.window.now.lines in
    let now = c.set_header.new.self in
    let same : c.table-lines.result.now ≡ lines = c.table-lines.ensures ∙ ap (λ (h : List ℕ). h ++ lines) c.requires.none in
    let some : IfSome c.header_end.result (λ at. length (records_of (take at lines)) ≡ 1) = subst (λ (l : List ℕ). IfSome c.header_end.result (λ at. length (records_of (take at l)) ≡ 1)) same c.header_end.ensures.one in
    let none : c.header_end.result ≡ None → length (records_of lines) ≤ 1 = subst (λ (l : List ℕ). c.header_end.result ≡ None → length (records_of l) ≤ 1) same c.header_end.ensures.none in
    let cut : IfSome c.header_end.result (IsCutAt lines) = subst (λ (l : List ℕ). IfSome c.header_end.result (IsCutAt l)) same c.header_end.ensures.cut in
    let at : c.unwrap_or-at.result ≡ unwrap_or c.header_end.result (length lines) = c.unwrap_or-at.ensures ∙ ap (λ (l : List ℕ). unwrap_or c.header_end.result (length l)) same in
    let front : take c.unwrap_or-at.result c.table-lines.result.now ≡ take (unwrap_or c.header_end.result (length lines)) lines =
    ap (λ n. take n c.table-lines.result.now) c.unwrap_or-at.ensures ∙ ap (λ (l : List ℕ). take (unwrap_or c.header_end.result (length l)) l) same in
    let reading = c.args.window.now.reading in
    let table = c.reading.result.now in
    let first = take (unwrap_or c.header_end.result (length lines)) lines in
    let here : 0 < length (records_as table first) = subst (λ (l : List ℕ). 0 < length (records_as table l)) front c.in-Ok.ensures.some in
    let more : 0 < length (records_of first) = omega (arith, here, as-length table first) in
    let header : now.header ≡ take (unwrap_or c.header_end.result (length lines)) lines = c.set_header.ensures.header ∙ ap (λ n. take n lines) at in
    let one : length (records_as reading now.header) ≡ 1 = as-length reading now.header ∙ (ap (λ (l : List ℕ). length (records_of l)) header ∙ front_one lines c.header_end.result some none more) in
    parted_lined reading now c.set_header.ensures.reading one (parted_lines lines c.header_end.result now cut header (c.set_header.ensures.lines ∙ ap (λ n. drop n lines) at))
