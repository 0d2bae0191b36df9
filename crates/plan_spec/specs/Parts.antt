-- What the parts of a plan keep.
use Rattle.std.specs.Prelude.{◌≡◌, ◌≤◌, ℕ, List, None, Option, is_some}
use Rattle.csv_rows.specs.Readings.{IsSeparator}
use Rattle.par_model.specs.Columns.{reads_column}
use Rattle.par_model.specs.Table.{item_text}
use Rattle.par_model.specs.declared.plan.ItemKind.{ItemKind}
use Rattle.par_model.specs.declared.plan.TheConstants.{MOST_PLACES}
use Rattle.plan_spec.specs.declared.plan.TheConstants.{MOST_AREA_PAGES, MOST_WORKERS}

-- an aggregate has the text of its output column, and the name of a column exactly if it reads one; without one it has
-- no places
pub record IsItem (kind : ItemKind) (column : Option (List ℕ)) (places : ℕ) (text : List ℕ) : Type 0 where
  pub text_is : text ≡ item_text (record { kind = kind; column = column; places = places })
  pub named : is_some column ≡ reads_column kind
  pub bare : column ≡ None → places ≡ 0
  pub few : places ≤ MOST_PLACES

-- at most eight columns to group by, one to eight aggregates, at most eight filters, no more workers and pages than words may
-- ask for, and a separator that may be one
pub record FitsLimits (groups items filters workers pages separator : ℕ) : Type 0 where
  pub groups_fit : groups ≤ 8
  pub some_item : 1 ≤ items
  pub items_fit : items ≤ 8
  pub filters_fit : filters ≤ 8
  pub workers_fit : workers ≤ MOST_WORKERS
  pub pages_fit : pages ≤ MOST_AREA_PAGES
  pub separator_fits : IsSeparator separator
