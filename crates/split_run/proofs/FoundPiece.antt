-- Rows that are added as they are found.
use Rattle.std.proofs.Common.{◌≡◌, ◌∙◌, ℕ, true, All, List, ◌∷◌, length, map, sym, ap, subst}
use Rattle.std.specs.Prelude.{◌==◌}
use Rattle.std.proofs.lemmas.Bool.{and_parts, eqb-true}
use Rattle.csv_rows.specs.Readings.{cleaned, exchanged, is_plain, keeps_all, records_as}
use Rattle.csv_rows.specs.Records.{records_of}
use Rattle.csv_rows.specs.declared.cleaning.Reading.{Reading}
use Rattle.csv_rows.proofs.Cleaned.{cleaned-exchanged, comma-kept, kept-all}
use Rattle.par_model.specs.Plan.{Plan}
use Rattle.partial_agg.specs.Cursor.{SomeRefused}
use Rattle.partial_agg.specs.Rows.{IsAccepted}
use Rattle.partial_agg.specs.declared.map.BlockAnswer.{BlockAnswer}
use Rattle.partial_agg.specs.declared.map.BlockAnswer.TheVariants as answer
use Rattle.row_blocks.specs.Blocks.{Table}
use Rattle.split_run.specs.Causes.{IsCause}

-- by a plain reading the records are those of the bytes
pub read-plainly : (reading : Reading) (bytes : List ℕ) → is_plain reading ≡ true → records_as reading bytes ≡ records_of bytes
read-plainly reading bytes h =
    let comma : reading.separator ≡ 44 = eqb-true reading.separator 44 (and_parts (reading.separator == 44) (keeps_all reading) h).0 in
    sym (cleaned-exchanged reading (records_of bytes))
    ∙ ap (λ (s : ℕ). map (map (cleaned reading)) (map (map (map (exchanged s))) (records_of bytes))) comma
    ∙ ap (map (map (cleaned reading))) (comma-kept (records_of bytes))
    ∙ kept-all reading (records_of bytes) (and_parts (reading.separator == 44) (keeps_all reading) h).1

-- an answer on rows is one on a table, if the first record is that of its columns
pub cause-of : (plan : Plan) (header : List (List ℕ)) (rows : Table) (width : ℕ) (why : BlockAnswer) → width ≡ length header → SomeRefused plan width rows why → IsCause plan (header ∷ rows) why
cause-of plan header rows width (answer.Row row cause item) is h = λ accepted. h (subst (λ (w : ℕ). All (IsAccepted plan w) rows) (sym is) accepted)
cause-of plan header rows width answer.Memory is h = tt
