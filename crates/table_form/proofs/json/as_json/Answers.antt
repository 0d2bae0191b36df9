use Rattle.std.proofs.Common.{◌∙◌, ◌++◌, List, ℕ, ap, map}
use Rattle.std.specs.List.{concat}
use Rattle.csv.specs.Records.{fields_of}
use Rattle.csv.specs.Writing.{read_back}
use Rattle.par_model.specs.Table.{table_text}
use Rattle.table_form.specs.Json.{json_name, json_row}
use Rattle.table_form.proofs.Walks.{text-first}
use Rattle.table_form.proofs.json.as_json.Goals as goal

pub returns : goal.returns
returns c header rows is =
    let begins = is ∙ text-first header rows in
    let first = c.in_ok-rows.ensures.fields header (table_text rows) begins in
    let rest = c.in_ok-rows.ensures.rest header (table_text rows) begins in
    let names = c.in_ok-names.ensures ∙ ap (map json_name) first in
    c.in_ok-put_rows.ensures rows rest ∙ ap (λ (t : List ℕ). t ++ concat (map (json_row c.args.keys (fields_of c.in_ok-names.names)) (map read_back rows))) c.new-out.ensures.items
    ∙ ap (λ (n : List (List ℕ)). concat (map (json_row c.args.keys n) (map read_back rows))) names
