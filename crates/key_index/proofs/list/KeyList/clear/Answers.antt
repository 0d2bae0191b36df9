use Rattle.std.proofs.Common.{refl}
use Rattle.csv.specs.Records.{cut_from}
use Rattle.csv_rows.proofs.Groups.{covers-none}
use Rattle.key_index.proofs.list.KeyList.clear.Goals as goal

pub invariant_of-self : goal.invariant_of-self
invariant_of-self c = rw (c.clear.ensures.items, c.clear-2.ensures.items) covers-none

pub returns : goal.returns
unfolding cut_from
returns c = rw (c.clear.ensures.items, c.clear-2.ensures.items) refl
