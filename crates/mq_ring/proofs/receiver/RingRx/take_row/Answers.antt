use Rattle.std.proofs.Common.{◌≡◌, ◌+◌, ◌<◌, ◌≤◌, ℕ, length, ap, subst, sym, ◌∙◌, arith}
use Rattle.atomic_table.specs.Seated.{TableId}
use Rattle.ring_rule.specs.Frames.{IsFramed}
use Rattle.mq_ring.specs.Ends.{ReceivingEnd}
use Rattle.mq_ring.proofs.Rows.{out_read}
use Rattle.mq_ring.proofs.RowSteps.{idle_self, few_places, take_row_inside, take_row_may, take_row_step, row_is_taken}
use Rattle.mq_ring.proofs.receiver.RingRx.take_row.Goals as goal

pub take_row-requires-clause-inside : goal.take_row-requires-clause-inside
take_row-requires-clause-inside c =
    take_row_inside c.self.inside.seat.table_id _ c.self.inside.seat.me _ _ _ _ _ c.self.invariant c.self.view_is c.requires.here c.place_at-place.result c.args.words c.place_at-place.ensures c.requires.row

pub take_row-requires-clause-rests : goal.take_row-requires-clause-rests
take_row-requires-clause-rests c = idle_self c.self.inside.seat.me _ c.self.invariant.receives

pub take_row-requires-clause-may : goal.take_row-requires-clause-may
take_row-requires-clause-may c =
    take_row_may c.self.inside.seat.table_id _ c.self.inside.seat.me _ _ _ _ _ c.self.invariant c.self.view_is c.requires.here c.place_at-place.result c.args.words c.place_at-place.ensures c.requires.row c.requires.ready

pub read_row-requires-clause-small : goal.read_row-requires-clause-small
read_row-requires-clause-small c =
    few_places c.self.inside.seat.table_id _ _ _ _ _ c.place_at-place.result c.args.words c.self.invariant.lies (ap (λ (x : ReceivingEnd). x.region) c.self.view_is ∙ c.requires.here)
    (take_row_inside c.self.inside.seat.table_id _ c.self.inside.seat.me _ _ _ _ _ c.self.invariant c.self.view_is c.requires.here c.place_at-place.result c.args.words c.place_at-place.ensures c.requires.row)

pub read_row-requires-clause-slots : goal.read_row-requires-clause-slots
read_row-requires-clause-slots c = let o = c.take_row.ensures.out in (o.0, o.1, ap (λ m. m.1) o.2)

pub load_as-self-inside-requires-clause-allowed : goal.load_as-self-inside-requires-clause-allowed
load_as-self-inside-requires-clause-allowed c =
    let o = c.read_row.ensures.read in
    take_row_step c.self.inside.seat.table_id _ c.self.inside.seat.me _ _ _ _ _ c.self.invariant c.self.view_is c.requires.here _ c.place_at-place.result c.args.words c.read_row.new.seat.me c.requires.stays c.place_at-place.ensures c.requires.row c.requires.ready
    (o.0, o.1, out_read c.self.inside.seat.me.0.view c.place_at-place.result c.args.words o.0 c.take_row.new.seat.me c.read_row.new.seat.me c.take_row.ensures.out c.read_row.ensures.same o.2)

pub invariant_of-self : goal.invariant_of-self
invariant_of-self c =
    let o = c.read_row.ensures.read in
    (row_is_taken c.self.inside.seat.table_id _ c.self.inside.seat.me _ _ _ _ _ c.self.invariant c.self.view_is c.requires.here c.load_as-self-inside.new.seat.table_id c.place_at-place.result c.args.words o.0 c.read_row.new.seat.me c.load_as-self-inside.new.seat.me o.1
    (c.load_as-self-inside.ensures.seat.0 ∙ c.read_row.ensures.seat.0 ∙ c.take_row.ensures.seat.0)
    (out_read c.self.inside.seat.me.0.view c.place_at-place.result c.args.words o.0 c.take_row.new.seat.me c.read_row.new.seat.me c.take_row.ensures.out c.read_row.ensures.same o.2) c.requires.ready c.load_as-self-inside.ensures.told).0

pub returns-clause-taken : goal.returns-clause-taken
returns-clause-taken c =
    let o = c.read_row.ensures.read in
    let g = row_is_taken c.self.inside.seat.table_id _ c.self.inside.seat.me _ _ _ _ _ c.self.invariant c.self.view_is c.requires.here c.load_as-self-inside.new.seat.table_id c.place_at-place.result c.args.words o.0 c.read_row.new.seat.me c.load_as-self-inside.new.seat.me o.1
    (c.load_as-self-inside.ensures.seat.0 ∙ c.read_row.ensures.seat.0 ∙ c.take_row.ensures.seat.0)
    (out_read c.self.inside.seat.me.0.view c.place_at-place.result c.args.words o.0 c.take_row.new.seat.me c.read_row.new.seat.me c.take_row.ensures.out c.read_row.ensures.same o.2) c.requires.ready c.load_as-self-inside.ensures.told in
    (o.0, o.1, g.1, o.3)

pub returns-clause-framed : goal.returns-clause-framed
returns-clause-framed c =
    let o = c.read_row.ensures.read in
    let g = row_is_taken c.self.inside.seat.table_id _ c.self.inside.seat.me _ _ _ _ _ c.self.invariant c.self.view_is c.requires.here c.load_as-self-inside.new.seat.table_id c.place_at-place.result c.args.words o.0 c.read_row.new.seat.me c.load_as-self-inside.new.seat.me o.1
    (c.load_as-self-inside.ensures.seat.0 ∙ c.read_row.ensures.seat.0 ∙ c.take_row.ensures.seat.0)
    (out_read c.self.inside.seat.me.0.view c.place_at-place.result c.args.words o.0 c.take_row.new.seat.me c.read_row.new.seat.me c.take_row.ensures.out c.read_row.ensures.same o.2) c.requires.ready c.load_as-self-inside.ensures.told in
    λ low. subst (λ (e : ReceivingEnd). IsFramed c.args.self.now.end.ring.max e.end.taken) (sym g.1) (g.2 low)
