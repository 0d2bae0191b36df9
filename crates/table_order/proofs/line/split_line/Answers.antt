use Rattle.std.proofs.Common.{◌≡◌, ◌∙◌, ◌+◌, ℕ, ap, arith, length, take, false}
use Rattle.std.proofs.lemmas.List.{length-append}
use Rattle.std.proofs.Math.Seq.{take-append_seam}
use Rattle.csv.specs.Writing.{default_writer, row_text}
use Rattle.table_order.specs.Lines.{size_to}
use Rattle.table_order.proofs.Scan.{size-line}
use Rattle.table_order.proofs.line.split_line.Goals as goal

pub returns-clause-line : goal.returns-clause-line
returns-clause-line c fields rest is =
    let line = row_text default_writer fields in
    let whole = ap length is ∙ length-append line rest in
    let size : c.size_to-size.result + 1 ≡ length line = ap (λ (n : ℕ). n + 1) (c.size_to-size.ensures.size ∙ ap (size_to false false) is) ∙ size-line fields rest in
    let count : c.min.result ≡ length line = omega (arith, whole, size, c.min.ensures) in
    c.split_at.ensures.front ∙ ap (λ (n : ℕ). take n c.args.text.now) count ∙ ap (take (length line)) is ∙ take-append_seam line rest
