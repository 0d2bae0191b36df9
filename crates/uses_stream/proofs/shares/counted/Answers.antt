use Rattle.std.proofs.Common.{◌≡◌, ◌<◌, ◌++◌, ◌∷◌, [], arith, ℕ, zero, suc, List, ap, length, rules, subst, sym}
use Rattle.par_model.specs.Columns.{HasColumns}
use Rattle.par_model.specs.Plan.{Plan}
use Rattle.row_windows.specs.Stretch.{Stretch}
use Rattle.csv_rows.specs.Readings.{records_as}
use Rattle.csv_rows.specs.Records.{record_at}
use Rattle.csv_rows.specs.declared.cleaning.Reading.{Reading}
use Rattle.split_run.specs.Pieces.{HaveColumns, piece_records}
use Rattle.uses_stream.proofs.shares.counted.Goals as goal

-- one piece has the columns of a plan if its header has
one_piece : (plan : Plan) (w : Stretch) → HasColumns plan (length (record_at (piece_records w) 0)) → HaveColumns plan (w ∷ [])
one_piece plan w has zero d within = has
one_piece plan w has (suc k) d within = absurd (omega (arith, within))

-- so it is if the table of it was read as it says
read_piece : (plan : Plan) (w : Stretch) (reading : Reading) (text : List ℕ) (store : List (List (List ℕ))) → reading ≡ w.reading → text ≡ w.header ++ w.lines → store ≡ records_as reading text → HasColumns plan (length (record_at store 0)) → HaveColumns plan (w ∷ [])
read_piece plan w reading text store r t s has = one_piece plan w (subst (λ x. HasColumns plan (length (record_at (records_as w.reading x) 0))) t (subst (λ x. HasColumns plan (length (record_at (records_as x text) 0))) r (subst (λ x. HasColumns plan (length (record_at x 0))) s has)))

pub shared_groups-requires-clause-columns : goal.shared_groups-requires-clause-columns
shared_groups-requires-clause-columns g c κs within =
    let w = c.in_ok-window.window in
    let are : c.as_slice-2.result.now ≡ w ∷ [] = search rules in
    subst (HaveColumns c.in-Ok.bound) (sym are) (read_piece c.in-Ok.bound w c.reading.result.now c.table.result.now c.in_ok-store.store c.reading.ensures c.table.ensures (search rules) c.in-Ok.ensures.columns)
