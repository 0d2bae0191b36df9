use Rattle.std.proofs.Common.{◌<◌, sym, subst, ◌∙◌}
use Rattle.atomic_table.specs.Seated.{TableId}
use Rattle.region_words.proofs.Seats.{take_asks}
use Rattle.region_words.proofs.region.Region.load_slot_at.Goals as goal

pub load-requires : goal.load-requires
load-requires g c =
    take_asks c.args.seat.now.table_id c.shared-table.result.now.table_id _ c.args.seat.now.id g.J.Range.from c.args.at c.args.seat.now.me c.shared-table.ensures.sized c.shared-table.ensures.key (c.requires.here ∙ sym c.shared-table.ensures.id) c.requires.rests c.requires.may (subst (λ (t : TableId). c.args.at < t.words) (sym c.shared-table.ensures.id) c.requires.inside) c.requires.fresh c.requires.place
