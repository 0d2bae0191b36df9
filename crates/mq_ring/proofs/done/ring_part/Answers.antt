use Rattle.std.proofs.Common.{◌+◌, ◌≤◌, sym, subst, ◌∙◌}
use Rattle.atomic_table.specs.Seated.{TableId}
use Rattle.region_rule.specs.RingMap.{ring_map}
use Rattle.region_words.specs.Parts.{own_map, IsBelow}
use Rattle.region_words.proofs.Seats.{Mine}
use Rattle.mq_ring.specs.Ends.{tx_of, rx_of}
use Rattle.mq_ring.proofs.Meetings.{begin_allowed, end_allows, ended, thrice}
use Rattle.mq_ring.proofs.Makings.{ring_below}
use Rattle.mq_ring.proofs.done.ring_part.Goals as goal

pub load_as-requires-clause-allowed : goal.load_as-requires-clause-allowed
load_as-requires-clause-allowed g c = begin_allowed _ _ c.args.seat.id g.J.Range.from c.args.seat.me _ _ _ c.requires.done

pub load_as-requires-2-clause-allowed : goal.load_as-requires-2-clause-allowed
load_as-requires-2-clause-allowed g c =
    end_allows _ _ c.restore_word-3.new.seat.id g.J.Range.from c.restore_word-3.new.seat.me (ring_map (tx_of c.args.seat.me.0.view) (rx_of c.args.seat.me.0.view)) (tx_of c.args.seat.me.0.view) (rx_of c.args.seat.me.0.view) c.requires.sized.0
    (thrice c.args.seat.me c.load_as.new.seat.me c.restore_word.new.seat.me c.restore_word-2.new.seat.me c.restore_word-3.new.seat.me _ _ c.requires.done c.load_as.ensures.told c.restore_word.ensures.copied c.restore_word-2.ensures.copied c.restore_word-3.ensures.copied)
    (c.requires.range.0 ∙ c.requires.range.1)

pub of_seat-requires-clause-below : goal.of_seat-requires-clause-below
of_seat-requires-clause-below g c =
    let s = tx_of c.args.seat.me.0.view in
    let q = rx_of c.args.seat.me.0.view in
    let copied = thrice c.args.seat.me c.load_as.new.seat.me c.restore_word.new.seat.me c.restore_word-2.new.seat.me c.restore_word-3.new.seat.me _ _ c.requires.done c.load_as.ensures.told c.restore_word.ensures.copied c.restore_word-2.ensures.copied
    c.restore_word-3.ensures.copied in
    let me = ended g.J.Range.from c.restore_word-3.new.seat.me c.load_as-2.new.seat.me (ring_map s q) s q copied c.load_as-2.ensures.told in
    let inside : s.ring.base + 3 + s.ring.size ≤ c.args.r.now.words = subst (λ b. b + 3 + s.ring.size ≤ c.args.r.now.words) c.requires.range.1 c.requires.inside in
    let below : IsBelow (ring_map s q) c.args.r.now.words = ring_below s q c.args.r.now.words c.requires.counted inside in
    subst (λ (x : Mine). IsBelow (own_map x.0.view) c.load_as-2.new.seat.table_id.words) (sym me)
    (subst (λ (t : TableId). IsBelow (ring_map s q) t.words) (sym (c.load_as-2.ensures.seat.0 ∙ c.restore_word-3.ensures.seat.0 ∙ c.restore_word-2.ensures.seat.0 ∙ c.restore_word.ensures.seat.0 ∙ c.load_as.ensures.seat.0 ∙ c.requires.here)) below)
