use Rattle.std.proofs.Common.{◌+◌, ◌≤◌, sym, subst, ◌∙◌}
use Rattle.atomic_table.specs.Seated.{TableId}
use Rattle.region_words.proofs.Seats.{take_row_asks}
use Rattle.region_words.proofs.region.Region.take_row_at.Goals as goal

pub load-requires : goal.load-requires
load-requires g c =
    take_row_asks c.args.seat.now.table_id c.shared-table.result.now.table_id _ c.args.seat.now.id g.J.Range.from g.J.Range.len c.args.at c.args.words c.args.seat.now.me c.shared-table.ensures.sized c.shared-table.ensures.key (c.requires.here ∙ sym c.shared-table.ensures.id) c.requires.rests c.requires.may
    (subst (λ (t : TableId). c.args.at + c.args.words ≤ t.words) (sym c.shared-table.ensures.id) c.requires.inside) c.requires.range.0 c.requires.range.1
