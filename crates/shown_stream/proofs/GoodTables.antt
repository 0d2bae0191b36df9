-- What is shown of the table of a query that leaves out refused rows, by the text that was kept of it.
use Rattle.std.proofs.Common.{◌≡◌, ◌∙◌, ◌++◌, [], ℕ, List, Option, None, Some, IfSome, ap, subst, sym, take}
use Rattle.std.specs.Io.KnownBytes.{Appends}
use Rattle.csv_rows.specs.Readings.{records_in}
use Rattle.good_groups.specs.Good.{good_records}
use Rattle.good_stream.specs.Good.{IsGoodText}
use Rattle.plan_spec.specs.Query.{Query}
use Rattle.shown_stream.specs.Ended.{PutsPart, PutsShown}
use Rattle.shown_stream.specs.Good.{IsGoodShownOf}
use Rattle.shown_stream.specs.declared.how.How.{How}
use Rattle.shown_stream.proofs.Tables.{answer_rows}

module _ (most : ℕ) (how : How) (asked : Option Query) where
  kept_table : (bytes start kept text : List ℕ) → start ≡ [] → kept ≡ start ++ text → IsGoodText most asked bytes text → IsGoodText most asked bytes kept
  kept_table bytes start kept text none is table = subst (λ (t : List ℕ). IsGoodText most asked bytes t) (sym (is ∙ ap (λ (s : List ℕ). s ++ text) none)) table

  whole : (bytes kept : List ℕ) (old new : Option (List ℕ)) → IsGoodText most asked bytes kept → PutsShown how kept old new → (text : List ℕ) × IsGoodShownOf most how asked bytes text × Appends old new text
  whole bytes kept old new table puts =
      let are = answer_rows table.query.plan (good_records table.query (records_in table.query.reading bytes)) kept table.over.is_text in
      let put = puts are.0 are.1 are.2 in
      (put.0, record { header = are.0; rows = are.1; table = subst (λ (t : List ℕ). IsGoodText most asked bytes t) are.2 table; shown = put.1 }, put.2)

  part : (bytes kept : List ℕ) (old new : Option (List ℕ)) → IsGoodText most asked bytes kept → PutsPart how kept old new → (text : List ℕ) × IsGoodShownOf most how asked bytes text × (n : ℕ) × Appends old new (take n text)
  part bytes kept old new table puts =
      let are = answer_rows table.query.plan (good_records table.query (records_in table.query.reading bytes)) kept table.over.is_text in
      let put = puts are.0 are.1 are.2 in
      (put.0, record { header = are.0; rows = are.1; table = subst (λ (t : List ℕ). IsGoodText most asked bytes t) are.2 table; shown = put.1 }, put.2, put.3)

  pub good_shown : (from : Option (List ℕ)) (start kept : List ℕ) (old new : Option (List ℕ)) → start ≡ [] → IfSome from (λ bytes. (text : List ℕ) × IsGoodText most asked bytes text × Appends (Some start) (Some kept) text)
      → PutsShown how kept old new → IfSome from (λ bytes. (text : List ℕ) × IsGoodShownOf most how asked bytes text × Appends old new text)
  good_shown None start kept old new none table puts = tt
  good_shown (Some bytes) start kept old new none table puts = whole bytes kept old new (kept_table bytes start kept table.0 none table.2 table.1) puts

  pub good_part : (from : Option (List ℕ)) (start kept : List ℕ) (old new : Option (List ℕ)) → start ≡ [] → IfSome from (λ bytes. (text : List ℕ) × IsGoodText most asked bytes text × Appends (Some start) (Some kept) text)
      → PutsPart how kept old new → IfSome from (λ bytes. (text : List ℕ) × IsGoodShownOf most how asked bytes text × (n : ℕ) × Appends old new (take n text))
  good_part None start kept old new none table puts = tt
  good_part (Some bytes) start kept old new none table puts = part bytes kept old new (kept_table bytes start kept table.0 none table.2 table.1) puts
