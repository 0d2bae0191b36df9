use Rattle.std.proofs.Common.{refl}
use Rattle.csv.specs.Records.{cut_from}
use Rattle.csv_rows.proofs.Groups.{covers-none}
use Rattle.key_index.proofs.list.KeyList.new.Goals as goal

pub invariant_of-result : goal.invariant_of-result
invariant_of-result c = rw (c.new.ensures.items, c.new-2.ensures.items) covers-none

pub returns : goal.returns
unfolding cut_from
returns c = rw (c.new.ensures.items, c.new-2.ensures.items) refl
