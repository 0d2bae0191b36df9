-- The text of the rows reads back as their records.
use Rattle.std.proofs.Common.{◌≡◌, ◌≤◌, ◌<◌, ◌+◌, ◌++◌, ◌∷◌, ◌∙◌, [], ap, refl, sym, arith, length, length-append, map, ℕ, zero, suc, List}
use Rattle.std.specs.Prelude.{if◌then◌else◌}
use Rattle.std.proofs.lemmas.List.{length-map}
use Rattle.csv.proofs.RoundTrip.{read-write, rows_text}
use Rattle.csv.specs.Machine.{next_record}
use Rattle.csv.specs.Reading.{default_config, records_from, strip_bom}
use Rattle.csv.specs.Writing.{default_writer, fields_text, is_blank, read_back, row_body, row_text}
use Rattle.csv.specs.declared.parser.State.TheVariants as st
use Rattle.csv_rows.specs.Records.{records_of}
use Rattle.par_model.specs.Table.{table_text}
use Rattle.gen_query.specs.Generator.{generated, header, next_of, numbers, record_of}

text_is : (table : List (List (List ℕ))) → table_text table ≡ rows_text table
unfolding table_text rows_text
text_is [] = refl
text_is (row ∷ rows) = ap (λ (t : List ℕ). row_text default_writer row ++ t) (text_is rows)

-- each record has a byte, and so as many turns as there are bytes are enough
row_long : (row : List (List ℕ)) → 1 ≤ length (row_text default_writer row)
row_long row =
    let blank : List ℕ = if is_blank default_writer row then 34 ∷ 34 ∷ [] else [] in
    omega (arith, length-append (row_body default_writer row) (blank ++ 10 ∷ []), length-append blank (10 ∷ []))

rows_long : (rows : List (List (List ℕ))) → length rows ≤ length (rows_text rows)
unfolding rows_text
rows_long [] = omega arith
rows_long (row ∷ rows) = omega (arith, row_long row, rows_long rows, length-append (row_text default_writer row) (rows_text rows))

read_from : (rows : List (List (List ℕ))) (turns : ℕ) → length rows < turns → records_from default_config turns st.StartRecord (rows_text rows) ≡ map read_back rows
unfolding records_from rows_text next_record
read_from rows zero lt = absurd (omega arith)
read_from [] (suc turns) lt = refl
read_from (row ∷ rows) (suc turns) lt = rw (read-write row (rows_text rows)) (ap (λ (t : List (List (List ℕ))). read_back row ∷ t) (read_from rows turns (omega arith)))

-- records with a field read back as they are
backs : (xs : List ℕ) → map read_back (map record_of xs) ≡ map record_of xs
unfolding record_of
backs [] = refl
backs (x ∷ xs) = ap (λ (t : List (List (List ℕ))). record_of x ∷ t) (backs xs)

-- the text has no byte order mark
bare : (seed count : ℕ) → strip_bom (table_text (generated seed count)) ≡ table_text (generated seed count)
unfolding table_text strip_bom fields_text is_blank
bare seed count = refl

pub reads_back : (seed count : ℕ) → records_of (table_text (generated seed count)) ≡ generated seed count
reads_back seed count =
    let rows = generated seed count in
    let same = bare seed count ∙ text_is rows in
    rw same (read_from rows (length (rows_text rows) + 1) (omega (arith, rows_long rows)) ∙ ap (λ (t : List (List (List ℕ))). header ∷ t) (backs (numbers seed count)))

-- so there is a header, and there are not too many records
pub numbers_long : (seed count : ℕ) → length (numbers seed count) ≡ count
unfolding numbers
numbers_long seed zero = refl
numbers_long seed (suc count) = ap suc (numbers_long (next_of seed) count)

module _ (bytes text : List ℕ) (seed count : ℕ) (same : bytes ≡ text) (is : text ≡ table_text (generated seed count)) where
  pub are_generated : records_of bytes ≡ generated seed count
  are_generated = ap records_of (same ∙ is) ∙ reads_back seed count

  pub not_none : records_of bytes ≡ [] → ⊥
  not_none none = let no : [] ≡ header ∷ map record_of (numbers seed count) = sym none ∙ are_generated in cc

  pub not_many : count ≤ 4194304 → 4194305 < length (records_of bytes) → ⊥
  not_many few many =
      let long = ap (length {A = List (List ℕ)}) are_generated in
      omega (arith, few, many, long, length-map (numbers seed count) record_of, numbers_long seed count)
