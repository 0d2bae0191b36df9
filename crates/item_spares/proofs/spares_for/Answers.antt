use Rattle.std.proofs.Common.{◌≡◌, ◌∙◌, ap}
use Rattle.size_classes.specs.Classes.{class_size}
use Rattle.dsa_area.specs.Sizes.{chunk_size}
use Rattle.dsa_area.proofs.Chunks.{size_least}
use Rattle.item_spares.proofs.spares_for.Goals as goal

pub returns-clause-size : goal.returns-clause-size
returns-clause-size g c = ap class_size c.in_ok-spares.ensures.class ∙ (size_least c.item_bytes.result c.in-Some.class c.in-Some.ensures.least ∙ ap chunk_size c.item_bytes.ensures)
