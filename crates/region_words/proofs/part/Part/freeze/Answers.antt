use Rattle.std.proofs.Common.{subst, ◌<◌}
use Rattle.atomic_table.specs.Seated.{TableId}
use Rattle.region_words.proofs.Frozens.{freeze_asks}
use Rattle.region_words.proofs.part.Part.freeze.Goals as goal

pub load_as-requires-clause-allowed : goal.load_as-requires-clause-allowed
load_as-requires-clause-allowed c =
    freeze_asks _ _ c.into_copied_seat-seat.result.id c.into_copied_seat-seat.result.me _ _ _ c.into_copied_seat-seat.ensures.copied (subst (λ (t : TableId). 0 < t.words) c.requires.here c.into_copied_seat-seat.ensures.sized.0) c.requires.row
