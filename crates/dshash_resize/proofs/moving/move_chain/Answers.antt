use Rattle.std.proofs.Common.{◌<◌, ℕ, length, sym, subst}
use Rattle.dshash_core.specs.Hung.{Layout, IsItemChunk}
use Rattle.dshash_resize.proofs.MoveSteps.{new_here, has_room, moved_on, still_empty, layout_is}
use Rattle.dshash_resize.proofs.moving.move_chain.Goals as goal

pub take_in-requires-clause-item : goal.take_in-requires-clause-item
take_in-requires-clause-item g c =
    let f = c.in-Some.ensures.some in
    let r = c.requires.moving in
    let m = c.loop-item.invariant.moved.moving r.0 r.1 r.2 r.3 in
    let l : c.args.bucket < length c.loop-item.from.chains = subst (λ (n : ℕ). c.args.bucket < n) (sym c.loop-item.invariant.moved.buckets_same) c.requires.bucket in (
      f.it,
      subst (λ (y : Layout). IsItemChunk c.in-Some.item.at c.in-Some.item.part.words y f.it) (layout_is g.O.CellObject.decoded g.O.CellObject.VALUE_WORDS r.0 r.1 r.2 c.loop-item.p c.loop-item.from m) f.item,
      new_here g.O.CellObject.decoded g.O.CellObject.VALUE_WORDS r.0 r.1 r.2 c.loop-item.p c.loop-item.from c.pop.new.self c.args.bucket f.it f.rest m l f.chain f.without,
    )

pub take_in-requires-clause-room : goal.take_in-requires-clause-room
take_in-requires-clause-room g c =
    let f = c.in-Some.ensures.some in
    let r = c.requires.moving in
    let m = c.loop-item.invariant.moved.moving r.0 r.1 r.2 r.3 in
    let l : c.args.bucket < length c.loop-item.from.chains = subst (λ (n : ℕ). c.args.bucket < n) (sym c.loop-item.invariant.moved.buckets_same) c.requires.bucket in
    has_room g.O.CellObject.decoded g.O.CellObject.VALUE_WORDS r.0 r.1 r.2 c.loop-item.p c.loop-item.from c.pop.new.self c.args.bucket f.it f.rest m l f.chain f.without

pub loop-item-preserved : goal.loop-item-preserved
loop-item-preserved g c =
    let f = c.in-Some.ensures.some in
    let r = c.requires.moving in
    let m = c.loop-item.invariant.moved.moving r.0 r.1 r.2 r.3 in
    let l : c.args.bucket < length c.loop-item.from.chains = subst (λ (n : ℕ). c.args.bucket < n) (sym c.loop-item.invariant.moved.buckets_same) c.requires.bucket in
    let taken = c.take_in.ensures f.it
    (subst (λ (y : Layout). IsItemChunk c.in-Some.item.at c.in-Some.item.part.words y f.it) (layout_is g.O.CellObject.decoded g.O.CellObject.VALUE_WORDS r.0 r.1 r.2 c.loop-item.p c.loop-item.from m) f.item) in
    record {
      moved = moved_on g.O.CellObject.decoded g.O.CellObject.VALUE_WORDS c.args.p.now c.loop-item.p c.take_in.new.self c.args.from.now c.loop-item.from c.pop.new.self c.args.bucket f.it f.rest
          c.loop-item.invariant.moved l f.chain f.without taken;
      others = λ j e. still_empty c.loop-item.from c.pop.new.self c.args.bucket f.it f.rest j f.chain f.without (c.loop-item.invariant.others j e);
    }
