use Rattle.std.proofs.Common.{◌∙◌, ◌++◌, List, ℕ, ap, map}
use Rattle.std.specs.List.{concat}
use Rattle.csv.specs.Records.{fields_of}
use Rattle.csv.specs.Writing.{read_back}
use Rattle.par_model.specs.Table.{table_text}
use Rattle.table_form.specs.Aligned.{aligned_row, dashes, sized_text}
use Rattle.table_form.proofs.Joins.{three-pieces}
use Rattle.table_form.proofs.Walks.{text-first}
use Rattle.table_form.proofs.aligned.as_aligned.Goals as goal

pub returns : goal.returns
returns c header rows is =
    let begins = is ∙ text-first header rows in
    let first = c.in_ok-rows.ensures.fields header (table_text rows) begins in
    let rest = c.in_ok-rows.ensures.rest header (table_text rows) begins in
    let widths = c.as_slice-widths.result.now in
    let keys = c.args.keys in
    let body = concat (map (aligned_row keys widths) (map read_back rows)) in
    three-pieces c.new-out.result.items c.put_row.new.out.items c.put_dashes.new.out.items c.put_rows.new.out.items (aligned_row keys widths (fields_of c.read_row.new.row)) (dashes widths) body
    c.new-out.ensures.items c.in_ok-put_row.ensures c.in_ok-put_dashes.ensures (c.in_ok-put_rows.ensures rows rest)
    ∙ ap (λ (f : List (List ℕ)). aligned_row keys widths f ++ (dashes widths ++ body)) first
    ∙ ap (λ (s : List ℕ). sized_text keys s (read_back header) (map read_back rows)) (c.as_slice-widths.ensures.value ∙ c.in_ok-sizes.ensures header rows is)
