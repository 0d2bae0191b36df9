-- How the table of a query is shown, by the options that were taken off its words.
use Rattle.std.specs.Prelude.{◌≡◌, ◌∷◌, ℕ, List, Option, None, Some, Result, Ok, Err, if◌then◌else◌, length, option_map}
use Rattle.par_model.specs.Table.{table_text}
use Rattle.par_stream.specs.Answers.{IsTableText}
use Rattle.plan_spec.specs.Query.{Query}
use Rattle.shown_words.specs.Asking.{NamedOrder, NamedShown, asked_in}
use Rattle.shown_words.specs.Columns.{column_in, groups_in}
use Rattle.shown_words.specs.Taking.{Took}
use Rattle.shown_words.specs.Telling.{column_text, wrong_text}
use Rattle.shown_words.specs.declared.asked.Wrong.{Wrong}
use Rattle.shown_words.specs.declared.columns.Column.{Column}
use Rattle.table_form.specs.Forms.{form_text}
use Rattle.table_order.specs.Places.{column_places}
use Rattle.table_order.specs.Shown.{AreOrdered, first_of}
use Rattle.table_order.specs.declared.order.By.{By}
use Rattle.table_order.specs.declared.order.By.TheVariants as by
use Rattle.table_order.specs.declared.order.Shown.{Shown}
use Rattle.shown_stream.specs.declared.how.ByColumn.{ByColumn}
use Rattle.shown_stream.specs.declared.how.How.{How}

-- ---- what the options ask for

-- an order by a column, or what is said if the table has no such column
abbrev pub how_by : List (List ℕ) → NamedShown → NamedOrder → Option Column → Result How (List ℕ)
how_by words asked order None = Err (column_text words order)
how_by words asked order (Some column) = Ok (record { order = Some (record { column = column; numeric = order.numeric; down = order.down }); limit = asked.limit; form = asked.form; keys = length (groups_in words) })

-- an order by name or none; the columns of --group are the keys
abbrev pub how_ordered : List (List ℕ) → NamedShown → Option NamedOrder → Result How (List ℕ)
how_ordered words asked None = Ok (record { order = None; limit = asked.limit; form = asked.form; keys = length (groups_in words) })
how_ordered words asked (Some order) = how_by words asked order (column_in words order)

-- how options show the table of the query of these words
abbrev pub how_with : List (List ℕ) → NamedShown → Result How (List ℕ)
how_with words asked = how_ordered words asked asked.order

-- the same, or what is said of a wrong option
abbrev pub how_asked : Took → Result NamedShown Wrong → Result How (List ℕ)
how_asked took (Err w) = Err (wrong_text took w)
how_asked took (Ok asked) = how_with took.rest asked

-- how a table is shown, or what is said of the first option that is wrong
unfoldable pub how_in : Took → Result How (List ℕ)
how_in took = how_asked took (asked_in took)

-- ---- what is shown of a table

-- the values of an item are numbers, with as many digits after the point as the first that is not empty; fields of a column of
-- --group are integers if the order says so, and otherwise bytes
abbrev pub by_in : ByColumn → List (List (List ℕ)) → By
by_in order rows = if order.column.is_item then by.Numbers (column_places order.column.at rows) else (if order.numeric then by.Numbers 0 else by.Bytes)

-- which of these rows are shown, and in which order
abbrev pub shown_by : How → List (List (List ℕ)) → Shown
shown_by how rows = record { order = option_map (λ order. record { column = order.column.at; by = by_in order rows; down = order.down }) how.order; limit = how.limit }

-- a text has the header of a table, and of its rows those that are shown, in their order and in the form
pub record IsFormText (how : How) (header : List (List ℕ)) (rows : List (List (List ℕ))) (text : List ℕ) : Type 0 where
  pub ordered : List (List (List ℕ))
  pub are : AreOrdered (shown_by how rows).order rows ordered
  pub is : text ≡ form_text how.form how.keys header (first_of how.limit ordered)

-- A query is asked for, its outcome over bytes is a table, and a text has what is shown of that table
pub record IsShownOf (how : How) (asked : Option Query) (bytes text : List ℕ) : Type 0 where
  pub header : List (List ℕ)
  pub rows : List (List (List ℕ))
  pub table : IsTableText asked bytes (table_text (header ∷ rows))
  pub shown : IsFormText how header rows text
