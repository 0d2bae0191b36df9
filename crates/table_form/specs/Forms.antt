-- The forms of a table by their names, and the text of a table in each. A row of no field is read as one empty field, which is
-- how a table has it.
use Rattle.std.specs.Prelude.{ℕ, List, ◌∷◌, Option, None, Some, bytes_eq, codes, if◌then◌else◌, map}
use Rattle.csv.specs.Writing.{read_back}
use Rattle.par_model.specs.Table.{table_text}
use Rattle.table_form.specs.Aligned.{aligned_text}
use Rattle.table_form.specs.Json.{json_text}
use Rattle.table_form.specs.Tsv.{tsv_text}
use Rattle.table_form.specs.declared.form.Form.{Form}
use Rattle.table_form.specs.declared.form.Form.TheVariants as form

-- the form of this name
abbrev pub form_in : List ℕ → Option Form
form_in name =
    if bytes_eq name (codes "csv") then Some form.Csv
    else (if bytes_eq name (codes "tsv") then Some form.Tsv
    else (if bytes_eq name (codes "json") then Some form.Json
    else (if bytes_eq name (codes "aligned") then Some form.Aligned
    else None)))

-- the text of a table in a form; the first this many columns are keys
abbrev pub form_text : Form → ℕ → List (List ℕ) → List (List (List ℕ)) → List ℕ
form_text form.Csv keys header rows = table_text (header ∷ rows)
form_text form.Tsv keys header rows = tsv_text (map read_back (header ∷ rows))
form_text form.Json keys header rows = json_text keys (read_back header) (map read_back rows)
form_text form.Aligned keys header rows = aligned_text keys (read_back header) (map read_back rows)
