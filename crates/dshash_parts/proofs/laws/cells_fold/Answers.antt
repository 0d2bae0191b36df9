use Rattle.dshash_parts.proofs.Callers.{cells_fold}
use Rattle.dshash_parts.proofs.laws.cells_fold.Goals as goal

pub returns : goal.returns
returns g c = λ op unit laws step value adds none grows number count key es lawful others. cells_fold op unit laws step value adds none grows number count key es lawful others
