use Rattle.std.proofs.Common.{refl}
use Rattle.partial_agg.proofs.layout.Layout.wide.Goals as goal

pub returns : goal.returns
returns c = record { parts = refl; kept = refl; width = refl }
