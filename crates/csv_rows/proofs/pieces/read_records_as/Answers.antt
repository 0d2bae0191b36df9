use Rattle.std.proofs.Common.{◌<◌, ◌∙◌, ℕ, List, length, map, ap}
use Rattle.csv_rows.specs.Readings.{as_read, cleaned, exchanged}
use Rattle.csv_rows.specs.Records.{records_of}
use Rattle.csv_rows.proofs.Cleaned.{as-length, cleaned-exchanged}
use Rattle.csv_rows.proofs.pieces.read_records_as.Goals as goal

pub returns-in-Err-clause-no_header : goal.returns-in-Err-clause-no_header
returns-in-Err-clause-no_header c = λ h. ap (λ (rs : List (List (List ℕ))). map (map (as_read c.args.reading.now)) rs) (c.read_records.ensures.no_header (c.in-Err.is ∙ h))

pub returns-in-Err-clause-too_many : goal.returns-in-Err-clause-too_many
returns-in-Err-clause-too_many c = λ h.
    let many : 4194305 < length (records_of c.args.bytes.now) = c.read_records.ensures.too_many (c.in-Err.is ∙ h) in
    rw (as-length c.args.reading.now c.args.bytes.now) many

pub returns-in-Ok-cleaned-clause-records : goal.returns-in-Ok-cleaned-clause-records
returns-in-Ok-cleaned-clause-records c =
    let swapped = c.exchanged-swapped.ensures ∙ ap (λ (rs : List (List (List ℕ))). map (map (map (exchanged c.args.reading.now.separator))) rs) c.in-Ok.ensures.records in
    c.in-Ok-cleaned.ensures ∙ (ap (λ (rs : List (List (List ℕ))). map (map (cleaned c.args.reading.now)) rs) swapped ∙ cleaned-exchanged c.args.reading.now (records_of c.args.bytes.now))
