use Rattle.std.proofs.Common.{◌∙◌, ℕ, ap, length, map}
use Rattle.std.specs.Prelude.{replicate}
use Rattle.csv.specs.Records.{fields_of}
use Rattle.csv.specs.Writing.{read_back}
use Rattle.par_model.specs.Table.{table_text}
use Rattle.table_form.proofs.Walks.{text-first}
use Rattle.table_form.proofs.Widths.{sizes-are}
use Rattle.table_form.proofs.sizes.column_sizes.Goals as goal

pub returns : goal.returns
returns c header rows is =
    let begins = is ∙ text-first header rows in
    let first = c.in_ok-rows.ensures.fields header (table_text rows) begins in
    let rest = c.in_ok-rows.ensures.rest header (table_text rows) begins in
    let zeros = c.in_ok-sizes.ensures ∙ ap (λ (n : ℕ). replicate n 0) (c.len.ensures ∙ ap length first) in
    sizes-are c.in_ok-sizes.sizes.items c.widen.new.sizes.items c.widen_all.new.sizes.items (read_back header) (fields_of c.read_row.new.row) (map read_back rows) zeros first c.in_ok-widen.ensures
    (c.in_ok-widen_all.ensures rows rest)
