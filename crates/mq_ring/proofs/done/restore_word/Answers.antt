use Rattle.std.proofs.Common.{◌∙◌}
use Rattle.mq_ring.specs.Ends.{tx_of, rx_of}
use Rattle.mq_ring.proofs.Meetings.{count_allows, count_value, may_restore, restores, now_as}
use Rattle.mq_ring.proofs.done.restore_word.Goals as goal

pub load_as-value-requires-clause-allowed : goal.load_as-value-requires-clause-allowed
load_as-value-requires-clause-allowed c = count_allows _ _ c.args.seat.now.id c.args.at c.args.seat.now.me _ _ _ _ _ c.requires.done c.requires.count c.requires.inside

pub store_slot_as-requires-clause-rests : goal.store_slot_as-requires-clause-rests
store_slot_as-requires-clause-rests c = now_as c.args.seat.now.me c.load_as-value.new.seat.me _ c.requires.done c.load_as-value.ensures.told.1

pub store_slot_as-requires-clause-may : goal.store_slot_as-requires-clause-may
store_slot_as-requires-clause-may c = may_restore c.load_as-value.new.seat.me (tx_of c.args.seat.now.me.0.view) (rx_of c.args.seat.now.me.0.view) _ _ c.args.at (c.load_as-value.ensures.told.1 ∙ c.requires.done) c.requires.counted c.requires.count

pub store_slot_as-requires-clause-allowed : goal.store_slot_as-requires-clause-allowed
store_slot_as-requires-clause-allowed c = λ x.
    restores _ _ c.load_as-value.new.seat.id c.args.at x c.load_as-value.result c.load_as-value.new.seat.me (tx_of c.args.seat.now.me.0.view) (rx_of c.args.seat.now.me.0.view) _ _ (c.load_as-value.ensures.told.1 ∙ c.requires.done) c.requires.next
    (count_value c.args.seat.now.me (tx_of c.args.seat.now.me.0.view) (rx_of c.args.seat.now.me.0.view) _ _ c.args.at c.load_as-value.result c.requires.done c.requires.counted c.requires.count c.load_as-value.ensures.told.0) c.requires.inside c.requires.sized.2
