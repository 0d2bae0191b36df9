use Rattle.std.proofs.Common.{◌≡◌, rules}
use Rattle.csv_rows.proofs.Cleaned.{bytes-kept}
use Rattle.csv_rows.proofs.piece.exchanged_bytes.Goals as goal

pub returns-then-separator-eq44 : goal.returns-then-separator-eq44
returns-then-separator-eq44 c =
    let is : c.args.separator ≡ 44 = search rules in
    bytes-kept c.args.separator c.args.bytes.items is
