use Rattle.std.proofs.Common.{◌≡◌, ◌∙◌, List, ℕ, true, sym, ap, rules}
use Rattle.std.specs.Result.{is_ok}
use Rattle.csv_rows.specs.InPieces.{joined}
use Rattle.csv_rows.proofs.Joined.{joined-none, joined-one}
use Rattle.csv_rows.proofs.pieces.read_one_as.Goals as goal

pub returns-else-is_err-clause-records : goal.returns-else-is_err-clause-records
returns-else-is_err-clause-records c =
    let good : is_ok c.push.result ≡ true = search rules in
    let items = rw (good, c.new-pieces.ensures.items) at c.push.ensures.items in
    ap joined items ∙ (joined-one c.in-Ok.piece ∙ c.in-Ok.ensures.records)

pub returns-in-Err-NoHeader-clause-records : goal.returns-in-Err-NoHeader-clause-records
returns-in-Err-NoHeader-clause-records c =
    let none = c.read_records_as.ensures.no_header cc in
    rw c.new-pieces.ensures.items (joined-none {A = List (List ℕ)} ∙ sym none)
