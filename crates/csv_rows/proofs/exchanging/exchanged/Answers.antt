use Rattle.csv_rows.proofs.Exchanges.{xor-exchanged}
use Rattle.csv_rows.proofs.exchanging.exchanged.Goals as goal

pub returns-then-byte-separator : goal.returns-then-byte-separator
returns-then-byte-separator c = xor-exchanged c.args.separator c.args.byte c.if-byte-separator.either
