use Rattle.std.proofs.Common.{arith}
use Rattle.csv_rows.proofs.Splits.{at-start}
use Rattle.csv_rows.proofs.split.split.Goals as goal

pub blocks-2-init : goal.blocks-2-init
blocks-2-init c = record {
  scan = rw (c.requires.ends, c.requires.rows) (at-start c.args.text.now);
  low = omega arith;
  before = λ j low high. absurd (omega (arith, high));
}
