use Rattle.std.proofs.Common.{◌≡◌, ◌∷◌, length, map, rules, arith, ap, sym, ◌∙◌}
use Rattle.std.proofs.lemmas.List.{map-append}
use Rattle.std.specs.Vec.Iter.{into_iter_items}
use Rattle.parallel_ctx.specs.Returns.{CanSettle, IsReturned, claim_of, hash_of}
use Rattle.parallel_ctx.proofs.Passes.{all_there, more_there}
use Rattle.parallel_ctx.specs.Accounts.{heard, heard_of}
use Rattle.parallel_ctx.proofs.Zips.{completes-end, completes-next, images-next, images-end, AllZip-length, AllZip-none, AllZip-rest, room_next, room_next-le}
use Rattle.parallel_ctx.proofs.home.settle_all.Goals as goal

pub loop-back-preserved : goal.loop-back-preserved
loop-back-preserved g c =
    let was = c.loop-back.invariant in
    let back = c.in-Some.back in let receiver = c.in-Some-next.receiver in
    let left = into_iter_items c.loop-back.back-iterator in let left' = into_iter_items c.next.new.self in
    let rest = into_iter_items c.loop-back.rest in let rest' = into_iter_items c.next-in-loop-back.new.self in
    let one : left ≡ back ∷ left' = c.in-Some.ensures.steps.0 in
    let other : rest ≡ receiver ∷ rest' = c.in-Some-next.ensures.cases.0 in
    let fewer = c.in-Some.ensures.steps.1 in
    let both = AllZip-rest (CanSettle c.args.r.now) back receiver left left' rest rest' one other was.ready in
    let e = c.settle-worker.ensures in
    record {
      ready = both.1;
      room = room_next _ _ _ _ _ _ c.push_reserved.ensures.len c.push_reserved.ensures.capacity fewer was.room;
      claims_room = room_next _ _ _ _ _ _ c.push_reserved-in-loop-back.ensures.len c.push_reserved-in-loop-back.ensures.capacity fewer was.claims_room;
      hashes_room = room_next-le _ _ _ _ _ _ c.keep_seat.ensures.few c.keep_seat.ensures.capacity fewer was.hashes_room;
      so_far = completes-next IsReturned _ back c.settle-worker.result.worker left left' _ _ one c.push_reserved.ensures.items e.is was.so_far;
      heard =
          images-next heard _ _ _ (heard_of c.settle-worker.result.worker) receiver rest rest'
          (ap (map heard_of) c.push_reserved.ensures.items ∙ map-append _ _ _) other e.heard was.heard;
      hashes = more_there hash_of _ _ _ c.settle-worker.result.hash back left left' c.keep_seat.ensures.kept e.hash one was.hashes;
      claims =
          images-next claim_of _ _ _ c.settle-worker.result.claim back left left' c.push_reserved-in-loop-back.ensures.items one e.claim was.claims;
    }

pub returns-clause-workers : goal.returns-clause-workers
returns-clause-workers g c = completes-end IsReturned _ (into_iter_items c.loop-back.back-iterator) _ (sym c.loop-back.back-iterator.rest.ok.0 ∙ c.in-None.ensures.steps.0) c.loop-back.invariant.so_far

pub returns-clause-heard : goal.returns-clause-heard
returns-clause-heard g c =
    let left = into_iter_items c.loop-back.back-iterator in
    let none : length left ≡ 0 = sym c.loop-back.back-iterator.rest.ok.0 ∙ c.in-None.ensures.steps.0 in
    images-end heard _ _ (into_iter_items c.loop-back.rest) (AllZip-none (CanSettle c.args.r.now) left _ none c.loop-back.invariant.ready) c.loop-back.invariant.heard

pub returns-clause-claims : goal.returns-clause-claims
returns-clause-claims g c =
    let left = into_iter_items c.loop-back.back-iterator in
    let none : length left ≡ 0 = sym c.loop-back.back-iterator.rest.ok.0 ∙ c.in-None.ensures.steps.0 in
    images-end claim_of _ _ left none c.loop-back.invariant.claims

pub returns-clause-hashes : goal.returns-clause-hashes
returns-clause-hashes g c =
    let left = into_iter_items c.loop-back.back-iterator in
    let none : length left ≡ 0 = sym c.loop-back.back-iterator.rest.ok.0 ∙ c.in-None.ensures.steps.0 in
    all_there hash_of _ _ left none c.loop-back.invariant.hashes

pub unreachable-requires : goal.unreachable-requires
unreachable-requires g c =
    let left = into_iter_items c.loop-back.back-iterator in
    let rest = into_iter_items c.loop-back.rest in
    let long : length left ≡ length rest = AllZip-length (CanSettle c.args.r.now) left rest c.loop-back.invariant.ready in
    let one : left ≡ c.in-Some.back ∷ into_iter_items c.next.new.self = c.in-Some.ensures.steps.0 in
    let none : length rest ≡ 0 = search rules in
    let more : length left ≡ length (c.in-Some.back ∷ into_iter_items c.next.new.self) = ap (λ l. length l) one in
    omega (arith, long, none, more)
