-- What is shown of the table of a query, by the text that was kept of it.
use Rattle.std.proofs.Common.{◌≡◌, ◌∙◌, ◌∷◌, ◌++◌, [], ℕ, List, Option, None, Some, IfSome, ap, map, refl, subst, sym, take}
use Rattle.std.specs.Prelude.{option_map}
use Rattle.std.specs.Io.KnownBytes.{Appends}
use Rattle.csv_rows.specs.Readings.{records_in}
use Rattle.par_model.specs.Named.{NamedPlan, bound_plan}
use Rattle.par_model.specs.Outcome.{IsAnswer}
use Rattle.par_model.specs.Table.{group_record, table_header, table_text}
use Rattle.par_stream.specs.Answers.{IsTableText}
use Rattle.plan_spec.specs.Query.{Query}
use Rattle.table_form.specs.Forms.{form_text}
use Rattle.table_form.specs.declared.form.Form.{Form}
use Rattle.table_form.specs.declared.form.Form.TheVariants as written
use Rattle.table_order.specs.Shown.{AreOrdered, first_of}
use Rattle.table_order.specs.declared.order.Order.{Order}
use Rattle.shown_stream.specs.Ended.{PutsPart, PutsShown}
use Rattle.shown_stream.specs.Shown.{IsFormText, IsShownOf}
use Rattle.shown_stream.specs.declared.how.ByColumn.{ByColumn}
use Rattle.shown_stream.specs.declared.how.How.{How}

-- a text that answers a plan is that of a header and rows
pub answer_rows : (plan : NamedPlan) (records : List (List (List ℕ))) (text : List ℕ) → IsAnswer plan records text → (header : List (List ℕ)) × (rows : List (List (List ℕ))) × (text ≡ table_text (header ∷ rows))
unfolding IsAnswer
answer_rows plan [] text is = absurd is
answer_rows plan (header ∷ rows) text is = (table_header plan, map (group_record (bound_plan header plan) rows) is.1.groups, is.2 ∙ ap table_text is.1.is)

-- ---- a table that is shown as it is

are_plain : (f : ByColumn → Order) (order : Option ByColumn) (rows : List (List (List ℕ))) → order ≡ None → AreOrdered (option_map f order) rows rows
are_plain f None rows is = refl
are_plain f (Some column) rows is = cc is

first_plain : {A : Type 0} (limit : Option ℕ) (xs : List A) → limit ≡ None → first_of limit xs ≡ xs
first_plain None xs is = refl
first_plain (Some most) xs is = cc is

plain_text : (how : How) (header : List (List ℕ)) (rows : List (List (List ℕ))) (text : List ℕ) → how.order ≡ None → how.limit ≡ None → how.form ≡ written.Csv → text ≡ table_text (header ∷ rows) → IsFormText how header rows text
plain_text how header rows text order limit csv is = record {
  ordered = rows;
  are = are_plain _ how.order rows order;
  is = is ∙ ap (λ (shown : List (List (List ℕ))). table_text (header ∷ shown)) (sym (first_plain how.limit rows limit))
      ∙ sym (ap (λ (form : Form). form_text form how.keys header (first_of how.limit rows)) csv);
}

module _ (how : How) (asked : Option Query) where
  plain : (bytes text : List ℕ) → how.order ≡ None → how.limit ≡ None → how.form ≡ written.Csv → IsTableText asked bytes text → IsShownOf how asked bytes text
  plain bytes text order limit csv table =
      let are = answer_rows table.query.plan (records_in table.query.reading bytes) text table.over.is_text in
      record { header = are.0; rows = are.1; table = subst (λ (t : List ℕ). IsTableText asked bytes t) are.2 table; shown = plain_text how are.0 are.1 text order limit csv are.2 }

  pub plain_shown : (from old new : Option (List ℕ)) → how.order ≡ None → how.limit ≡ None → how.form ≡ written.Csv → IfSome from (λ bytes. (text : List ℕ) × IsTableText asked bytes text × Appends old new text)
      → IfSome from (λ bytes. (text : List ℕ) × IsShownOf how asked bytes text × Appends old new text)
  plain_shown None old new order limit csv table = tt
  plain_shown (Some bytes) old new order limit csv table = (table.0, plain bytes table.0 order limit csv table.1, table.2)

  pub plain_part : (from old new : Option (List ℕ)) → how.order ≡ None → how.limit ≡ None → how.form ≡ written.Csv → IfSome from (λ bytes. (text : List ℕ) × IsTableText asked bytes text × (n : ℕ) × Appends old new (take n text))
      → IfSome from (λ bytes. (text : List ℕ) × IsShownOf how asked bytes text × (n : ℕ) × Appends old new (take n text))
  plain_part None old new order limit csv table = tt
  plain_part (Some bytes) old new order limit csv table = (table.0, plain bytes table.0 order limit csv table.1, table.2, table.3)

  -- ---- a table that was kept, after nothing

  kept_table : (bytes start kept text : List ℕ) → start ≡ [] → kept ≡ start ++ text → IsTableText asked bytes text → IsTableText asked bytes kept
  kept_table bytes start kept text none is table = subst (λ (t : List ℕ). IsTableText asked bytes t) (sym (is ∙ ap (λ (s : List ℕ). s ++ text) none)) table

  whole : (bytes kept : List ℕ) (old new : Option (List ℕ)) → IsTableText asked bytes kept → PutsShown how kept old new → (text : List ℕ) × IsShownOf how asked bytes text × Appends old new text
  whole bytes kept old new table puts =
      let are = answer_rows table.query.plan (records_in table.query.reading bytes) kept table.over.is_text in
      let put = puts are.0 are.1 are.2 in
      (put.0, record { header = are.0; rows = are.1; table = subst (λ (t : List ℕ). IsTableText asked bytes t) are.2 table; shown = put.1 }, put.2)

  part : (bytes kept : List ℕ) (old new : Option (List ℕ)) → IsTableText asked bytes kept → PutsPart how kept old new → (text : List ℕ) × IsShownOf how asked bytes text × (n : ℕ) × Appends old new (take n text)
  part bytes kept old new table puts =
      let are = answer_rows table.query.plan (records_in table.query.reading bytes) kept table.over.is_text in
      let put = puts are.0 are.1 are.2 in
      (put.0, record { header = are.0; rows = are.1; table = subst (λ (t : List ℕ). IsTableText asked bytes t) are.2 table; shown = put.1 }, put.2, put.3)

  pub kept_shown : (from : Option (List ℕ)) (start kept : List ℕ) (old new : Option (List ℕ)) → start ≡ [] → IfSome from (λ bytes. (text : List ℕ) × IsTableText asked bytes text × Appends (Some start) (Some kept) text)
      → PutsShown how kept old new → IfSome from (λ bytes. (text : List ℕ) × IsShownOf how asked bytes text × Appends old new text)
  kept_shown None start kept old new none table puts = tt
  kept_shown (Some bytes) start kept old new none table puts = whole bytes kept old new (kept_table bytes start kept table.0 none table.2 table.1) puts

  pub kept_part : (from : Option (List ℕ)) (start kept : List ℕ) (old new : Option (List ℕ)) → start ≡ [] → IfSome from (λ bytes. (text : List ℕ) × IsTableText asked bytes text × Appends (Some start) (Some kept) text)
      → PutsPart how kept old new → IfSome from (λ bytes. (text : List ℕ) × IsShownOf how asked bytes text × (n : ℕ) × Appends old new (take n text))
  kept_part None start kept old new none table puts = tt
  kept_part (Some bytes) start kept old new none table puts = part bytes kept old new (kept_table bytes start kept table.0 none table.2 table.1) puts
