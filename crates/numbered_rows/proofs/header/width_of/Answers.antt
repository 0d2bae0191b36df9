use Rattle.std.proofs.Common.{◌∙◌, List, ℕ, ap, length}
use Rattle.csv_rows.specs.Records.{record_at, records_of}
use Rattle.numbered_rows.proofs.header.width_of.Goals as goal

pub returns-in-Ok : goal.returns-in-Ok
returns-in-Ok c = c.width.ensures ∙ ap (λ (r : List (List (List ℕ))). length (record_at r 0)) (c.in-Ok.ensures.records ∙ ap records_of (c.as_slice.ensures.value ∙ c.in_ok-text.ensures))
