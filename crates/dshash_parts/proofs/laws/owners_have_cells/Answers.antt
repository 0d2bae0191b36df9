use Rattle.dshash_parts.proofs.Owners.{owners_have_cells}
use Rattle.dshash_parts.proofs.laws.owners_have_cells.Goals as goal

pub returns : goal.returns
returns g c = λ number n key es h a owner. owners_have_cells g.O.CellObject.stepped g.O.CellObject.may number n key es h a owner
