use Rattle.std.proofs.Common.{◌∙◌, sym}
use Rattle.std.specs.Vec.Iter.{into_iter_items}
use Rattle.parallel_ctx.specs.Returns.{Brought}
use Rattle.parallel_ctx.proofs.Zips.{completes-end, completes-next, room_next}
use Rattle.parallel_ctx.proofs.start.bring_all.Goals as goal

pub returns : goal.returns
returns g c = completes-end (Brought g.W.Worker.did) _ (into_iter_items c.loop-one.one-iterator) _ (sym c.loop-one.one-iterator.rest.ok.0 ∙ c.in-None.ensures.steps.0) c.loop-one.invariant.so_far

pub loop-one-preserved : goal.loop-one-preserved
loop-one-preserved g c = record {
  room = room_next _ _ _ _ _ _ c.push_reserved.ensures.len c.push_reserved.ensures.capacity c.in-Some.ensures.steps.1 c.loop-one.invariant.room;
  so_far = completes-next (Brought g.W.Worker.did) _ c.in-Some.one c.bring.result (into_iter_items c.loop-one.one-iterator) (into_iter_items c.next.new.self) _ _ c.in-Some.ensures.steps.0 c.push_reserved.ensures.items c.bring.ensures c.loop-one.invariant.so_far;
}
