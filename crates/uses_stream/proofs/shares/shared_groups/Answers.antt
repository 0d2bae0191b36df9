use Rattle.std.proofs.Common.{◌<◌, ◌^◌, [], List, arith, length, subst, sym}
use Rattle.partial_agg.specs.Groups.{GroupsByKey}
use Rattle.gather_law.specs.Shares.{AreShared}
use Rattle.gather_law.proofs.RowShares.{shares_begin}
use Rattle.split_run.specs.Pieces.{rows_of}
use Rattle.uses_stream.proofs.shares.shared_groups.Goals as goal

pub returns-in-Ok-put_together : goal.returns-in-Ok-put_together
returns-in-Ok-put_together g c = λ header under.
    let plan = c.args.plan.now in
    let pieces = c.args.pieces.now in
    let width = length header in
    let none : AreShared plan width [] c.in-Ok.maps.items = subst (λ (l : List GroupsByKey). AreShared plan width [] l) (sym c.in-Ok.ensures) (shares_begin plan width c.args.participants) in
    let few : length (rows_of pieces) < 2 ^ 64 = omega (arith, c.in-Ok-add_pieces.ensures.count) in
    c.in-Ok-put_together.ensures plan width (rows_of pieces) (c.in-Ok-add_pieces.ensures.shared header [] under none (omega (arith, few))) few
