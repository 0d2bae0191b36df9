use Rattle.csv.specs.Records.{fields_of}
use Rattle.table_form.proofs.Widths.{WidensTo}
use Rattle.table_form.proofs.sizes.widen.Given as goal

-- the sizes of the columns so far
abbrev pub invariant-columns : goal.invariant-columns
invariant-columns l = WidensTo l.fn.sizes.items l.sizes.items (fields_of l.row) l.at
