use Rattle.std.proofs.Common.{◌<◌, refl, ◌∷◌, sym, subst, ◌∙◌}
use Rattle.atomic_table.specs.Seated.{TableId}
use Rattle.atomic_table.specs.Table.{rest}
use Rattle.word_map.proofs.Uses.{has_some}
use Rattle.region_words.proofs.Seats.{take_asks, copy_asks, owner_rests, owner_takes, not_yet}
use Rattle.region_words.proofs.region.Region.copy_word_at.Goals as goal

pub load-requires : goal.load-requires
load-requires g c =
    take_asks c.args.seat.now.table_id c.shared-table.result.now.table_id _ c.args.seat.now.id g.J.Range.from c.args.at c.args.seat.now.me c.shared-table.ensures.sized c.shared-table.ensures.key (c.requires.here ∙ sym c.shared-table.ensures.id)
    (owner_rests c.args.seat.now.me _ c.requires.owns) (owner_takes c.args.seat.now.me _ c.args.at c.requires.owns (has_some _ c.args.at c.requires.has)) (subst (λ (t : TableId). c.args.at < t.words) (sym c.shared-table.ensures.id) c.requires.inside) (not_yet c.args.at _ _ c.requires.next) c.requires.place

pub store-requires : goal.store-requires
store-requires g c =
    copy_asks c.args.seat.now.table_id c.load.new.seat.table_id c.shared-table.result.now.table_id _ c.load.new.seat.id g.J.Range.from c.args.at c.slot_mut-value.result.now c.args.seat.now.me c.load.new.seat.me
    (c.load.new.seat.me.0, (c.args.at, c.slot_mut-value.result.now) ∷ rest c.load.new.seat.me.1) _
    c.shared-table.ensures.sized c.shared-table.ensures.key (c.requires.here ∙ sym c.shared-table.ensures.id) c.load.ensures.0 c.requires.owns (has_some _ c.args.at c.requires.has) (subst (λ (t : TableId). c.args.at < t.words) (sym c.shared-table.ensures.id) c.requires.inside) c.requires.next c.requires.place c.load.ensures.2 c.slot_mut-value.ensures.value refl
