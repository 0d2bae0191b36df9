use Rattle.std.proofs.Common.{◌≡◌, ◌+◌, ◌<◌, ◌≤◌, ℕ, length, ap, subst, sym, ◌∙◌, arith}
use Rattle.atomic_table.specs.Seated.{TableId}
use Rattle.mq_ring.specs.Ends.{SendingEnd}
use Rattle.mq_ring.specs.Bursts.{words_from}
use Rattle.mq_ring.proofs.Runs.{length-words}
use Rattle.mq_ring.proofs.Rows.{out_filled}
use Rattle.mq_ring.proofs.RowSteps.{idle_self, few_places, put_row_inside, put_row_may, put_row_step, row_is_put}
use Rattle.mq_ring.proofs.sender.RingTx.put_row.Goals as goal

pub take_row-requires-clause-inside : goal.take_row-requires-clause-inside
take_row-requires-clause-inside c =
    put_row_inside c.self.inside.seat.table_id _ _ c.self.inside.seat.me _ _ _ _ _ _ _ c.self.invariant.0 c.self.view_is c.requires.here c.place_at-place.result c.args.words c.place_at-place.ensures c.requires.row

pub take_row-requires-clause-rests : goal.take_row-requires-clause-rests
take_row-requires-clause-rests c = idle_self c.self.inside.seat.me _ c.self.invariant.0.sends

pub take_row-requires-clause-may : goal.take_row-requires-clause-may
take_row-requires-clause-may c =
    put_row_may c.self.inside.seat.table_id _ _ c.self.inside.seat.me _ _ _ _ _ _ _ c.self.invariant.0 c.self.view_is c.requires.here c.place_at-place.result c.args.words c.place_at-place.ensures c.requires.row c.requires.room

pub fill_row-requires-clause-small : goal.fill_row-requires-clause-small
fill_row-requires-clause-small c =
    few_places c.self.inside.seat.table_id _ _ _ _ _ c.place_at-place.result c.args.words c.self.invariant.0.lies (ap (λ (x : SendingEnd). x.region) c.self.view_is ∙ c.requires.here)
    (put_row_inside c.self.inside.seat.table_id _ _ c.self.inside.seat.me _ _ _ _ _ _ _ c.self.invariant.0 c.self.view_is c.requires.here c.place_at-place.result c.args.words c.place_at-place.ensures c.requires.row)

pub fill_row-requires-clause-out : goal.fill_row-requires-clause-out
fill_row-requires-clause-out c = let o = c.take_row.ensures.out in (o.0, o.1, ap (λ m. m.1) o.2)

pub load_as-self-inside-requires-clause-allowed : goal.load_as-self-inside-requires-clause-allowed
load_as-self-inside-requires-clause-allowed c =
    put_row_step c.self.inside.seat.table_id _ _ c.self.inside.seat.me _ _ _ _ _ _ _ c.self.invariant.0 c.self.view_is c.requires.here _ c.place_at-place.result c.args.words (words_from c.args.from c.args.words c.args.bytes.now) c.fill_row.new.seat.me
    (length-words c.args.from c.args.words c.args.bytes.now c.requires.inside) c.requires.stays c.place_at-place.ensures c.requires.row c.requires.room c.requires.framed c.fill_row.ensures.fits
    (out_filled c.self.inside.seat.me.0.view c.place_at-place.result c.args.words _ c.take_row.new.seat.me c.fill_row.new.seat.me c.take_row.ensures.out c.fill_row.ensures.filled)

pub invariant_of-self : goal.invariant_of-self
invariant_of-self c = (
  (row_is_put c.self.inside.seat.table_id _ _ c.self.inside.seat.me _ _ _ _ _ _ _ c.self.invariant.0 c.self.view_is c.requires.here c.load_as-self-inside.new.seat.table_id c.place_at-place.result c.args.words (words_from c.args.from c.args.words c.args.bytes.now) c.fill_row.new.seat.me c.load_as-self-inside.new.seat.me
      (length-words c.args.from c.args.words c.args.bytes.now c.requires.inside) (c.load_as-self-inside.ensures.seat.0 ∙ c.fill_row.ensures.seat.0 ∙ c.take_row.ensures.seat.0)
      (out_filled c.self.inside.seat.me.0.view c.place_at-place.result c.args.words _ c.take_row.new.seat.me c.fill_row.new.seat.me c.take_row.ensures.out c.fill_row.ensures.filled) c.load_as-self-inside.ensures.told).0,
  c.self.invariant.1,
)

pub returns : goal.returns
returns c =
    (row_is_put c.self.inside.seat.table_id _ _ c.self.inside.seat.me _ _ _ _ _ _ _ c.self.invariant.0 c.self.view_is c.requires.here c.load_as-self-inside.new.seat.table_id c.place_at-place.result c.args.words (words_from c.args.from c.args.words c.args.bytes.now) c.fill_row.new.seat.me c.load_as-self-inside.new.seat.me
    (length-words c.args.from c.args.words c.args.bytes.now c.requires.inside) (c.load_as-self-inside.ensures.seat.0 ∙ c.fill_row.ensures.seat.0 ∙ c.take_row.ensures.seat.0)
    (out_filled c.self.inside.seat.me.0.view c.place_at-place.result c.args.words _ c.take_row.new.seat.me c.fill_row.new.seat.me c.take_row.ensures.out c.fill_row.ensures.filled) c.load_as-self-inside.ensures.told).1
