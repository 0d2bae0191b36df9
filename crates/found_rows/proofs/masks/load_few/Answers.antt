use Rattle.csv_rows.proofs.Bits.{padded}
use Rattle.found_rows.proofs.masks.load_few.Goals as goal

pub returns : goal.returns
returns c = rw c.copy_from_slice.ensures.after (padded c.args.text.now c.requires)
