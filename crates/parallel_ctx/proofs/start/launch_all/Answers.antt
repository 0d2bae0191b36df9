use Rattle.std.proofs.Common.{rules, ◌≡◌, ◌∷◌, ◌∙◌, sym}
use Rattle.std.proofs.lemmas.List.Elements.{All-head, All-same}
use Rattle.std.specs.Vec.Iter.{into_iter_items}
use Rattle.parallel_ctx.specs.Returns.{CanWork, Carries}
use Rattle.parallel_ctx.proofs.Zips.{completes-end, completes-next, count_next, room_next, All-rest}
use Rattle.parallel_ctx.proofs.start.launch_all.Goals as goal

pub loop-hand-preserved : goal.loop-hand-preserved
loop-hand-preserved g c = record {
  fresh = All-rest (CanWork (g.W.Worker.asks c.args.worker.now) c.args.shared.now) c.in-Some.hand (into_iter_items c.loop-hand.hand-iterator) (into_iter_items c.next.new.self) c.in-Some.ensures.steps.0 c.loop-hand.invariant.fresh;
  flags = count_next _ _ _ _ c.in-Some.ensures.steps.1 c.loop-hand.invariant.flags;
  room = room_next _ _ _ _ _ _ c.push_reserved.ensures.len c.push_reserved.ensures.capacity c.in-Some.ensures.steps.1 c.loop-hand.invariant.room;
  so_far = completes-next (Carries g.W.Worker.did c.args.worker.now c.args.shared.now) _ c.in-Some.hand c.launch.result (into_iter_items c.loop-hand.hand-iterator) (into_iter_items c.next.new.self) _ _ c.in-Some.ensures.steps.0 c.push_reserved.ensures.items c.launch.ensures c.loop-hand.invariant.so_far;
}

pub returns : goal.returns
returns g c = completes-end (Carries g.W.Worker.did c.args.worker.now c.args.shared.now) _ (into_iter_items c.loop-hand.hand-iterator) _ (sym c.loop-hand.hand-iterator.rest.ok.0 ∙ c.in-None.ensures.steps.0) c.loop-hand.invariant.so_far

pub loop-hand-init : goal.loop-hand-init
loop-hand-init g c = record { fresh = All-same (CanWork (g.W.Worker.asks c.args.worker.now) c.args.shared.now) (into_iter_items c.into_iter-hand-iterator.result) c.args.hands.items (search rules) c.requires.fresh; flags = search rules; room = search rules; so_far = search rules }

pub launch-requires-after_bounds : goal.launch-requires-after_bounds
launch-requires-after_bounds g c κs within =
    let left = into_iter_items c.loop-hand.hand-iterator in let left' = into_iter_items c.next.new.self in
    let one : left ≡ c.in-Some.hand ∷ left' = c.in-Some.ensures.steps.0 in
    All-head (CanWork (g.W.Worker.asks c.args.worker.now) c.args.shared.now) c.in-Some.hand left' (All-same (CanWork (g.W.Worker.asks c.args.worker.now) c.args.shared.now) (c.in-Some.hand ∷ left') left (sym one) c.loop-hand.invariant.fresh)
