use Rattle.table_form.proofs.Values.{values_are_numbers}
use Rattle.table_form.proofs.laws.values_are_numbers.Goals as goal

pub returns : goal.returns
returns c = values_are_numbers
