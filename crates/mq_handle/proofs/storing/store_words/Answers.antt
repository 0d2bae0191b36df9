use Rattle.std.proofs.Common.{◌≡◌, ℕ, refl, inl, ◌<◌, List, ◌++◌, length, take, drop, Option, sym, ap, subst, ◌∙◌, arith}
use Rattle.std.specs.List.{fold}
use Rattle.ring_rule.specs.Frames.{frame, IsFramed}
use Rattle.ring_rule.specs.Ring.{Ring, Sending, Receiving}
use Rattle.ring_rule.specs.Ends.{puts}
use Rattle.mq_ring.specs.Ends.{SendingEnd}
use Rattle.mq_ring.proofs.Runs.{HasPut, has_put}
use Rattle.mq_handle.specs.Filling.{base_of, Fills, enters}
use Rattle.mq_handle.proofs.Filling.{length-frame, less_put, changed, looked, looked_put, looked_full, more_put, rest_framed, stores_run, only_on, only_is}
use Rattle.mq_handle.specs.Told.{RoomFound}
use Rattle.mq_handle.proofs.Told.{room_same, room_on}
use Rattle.mq_handle.proofs.storing.store_words.Goals as goal

pub returns-then-counts-eq0-clause-steps : goal.returns-then-counts-eq0-clause-steps
returns-then-counts-eq0-clause-steps c =
    let total = length-frame c.args.message.now in
    let less = less_put _ _ _ c.loop-counts.counts.words c.loop-counts.invariant.put (omega (arith, c.loop-counts-test.true, c.words_of-total.ensures, c.len.ensures.count)) in
    looked_full _ _ _ _ _ _ _ _ c.loop-counts.invariant.steps c.loop-counts.invariant.counted c.look_for_room-counts.ensures.counted less c.if-counts-eq0.true c.look_for_room-counts.ensures.looks

pub returns-then-counts-eq0-clause-all : goal.returns-then-counts-eq0-clause-all
returns-then-counts-eq0-clause-all c =
    let total = length-frame c.args.message.now in
    omega (arith, c.loop-counts-test.true, c.words_of-total.ensures, c.len.ensures.count, c.look_for_room-counts.ensures.stored)

-- the words that are there before the next ones are stored
abbrev Here : List ℕ → List ℕ → List ℕ → ℕ → Type 0
Here base all put k = put ≡ base ++ take k all

pub store_run-counts-requires-clause-more : goal.store_run-counts-requires-clause-more
store_run-counts-requires-clause-more c =
    let total = length-frame c.args.message.now in
    omega (arith, c.loop-counts-test.true, c.words_of-total.ensures, c.len.ensures.count, c.look_for_room-counts.ensures.stored)

pub store_run-counts-requires-clause-framed : goal.store_run-counts-requires-clause-framed
store_run-counts-requires-clause-framed c =
    let total = length-frame c.args.message.now in
    let less = less_put _ _ _ c.loop-counts.counts.words c.loop-counts.invariant.put (omega (arith, c.loop-counts-test.true, c.words_of-total.ensures, c.len.ensures.count)) in
    let put_same = looked_put _ _ _ _ _ c.look_for_room-counts.ensures.looks in
    let steps = looked _ _ _ _ _ _ _ _ c.loop-counts.invariant.steps c.loop-counts.invariant.counted c.look_for_room-counts.ensures.counted less (omega (arith, c.if-counts-eq0.false)) c.look_for_room-counts.ensures.looks in
    let ring = (changed _ _ _ steps).ring in
    let here : Here (base_of c.args.tx.now.end c.args.counts.words) (frame c.args.message.now) c.look_for_room-counts.new.tx.end.put c.look_for_room-counts.result.words =
    put_same ∙ c.loop-counts.invariant.put ∙ ap (λ (k : ℕ). base_of c.args.tx.now.end c.args.counts.words ++ take k (frame c.args.message.now)) (sym c.look_for_room-counts.ensures.stored) in
    subst (λ (r : Ring). IsFramed r.max (c.look_for_room-counts.new.tx.end.put ++ drop c.look_for_room-counts.result.words (frame c.args.message.now))) (sym ring)
    (rest_framed _ _ _ _ c.look_for_room-counts.result.words c.requires.framed here)

pub store_run-counts-requires-clause-stays : goal.store_run-counts-requires-clause-stays
store_run-counts-requires-clause-stays c =
    let total = length-frame c.args.message.now in
    let less = less_put _ _ _ c.loop-counts.counts.words c.loop-counts.invariant.put (omega (arith, c.loop-counts-test.true, c.words_of-total.ensures, c.len.ensures.count)) in
    let steps = looked _ _ _ _ _ _ _ _ c.loop-counts.invariant.steps c.loop-counts.invariant.counted c.look_for_room-counts.ensures.counted less (omega (arith, c.if-counts-eq0.false)) c.look_for_room-counts.ensures.looks in
    (changed _ _ _ steps).gone ∙ c.requires.stays

pub loop-counts-preserved : goal.loop-counts-preserved
loop-counts-preserved c =
    let total = length-frame c.args.message.now in
    let all = frame c.args.message.now in
    let low : c.look_for_room-counts.result.words < length all = omega (arith, c.loop-counts-test.true, c.words_of-total.ensures, c.len.ensures.count, c.look_for_room-counts.ensures.stored) in
    let less = less_put _ _ _ c.loop-counts.counts.words c.loop-counts.invariant.put (omega (arith, c.loop-counts-test.true, c.words_of-total.ensures, c.len.ensures.count)) in
    let put_same = looked_put _ _ _ _ _ c.look_for_room-counts.ensures.looks in
    let steps = looked _ _ _ _ _ _ _ _ c.loop-counts.invariant.steps c.loop-counts.invariant.counted c.look_for_room-counts.ensures.counted less (omega (arith, c.if-counts-eq0.false)) c.look_for_room-counts.ensures.looks in
    let here : Here (base_of c.args.tx.now.end c.args.counts.words) all c.look_for_room-counts.new.tx.end.put c.look_for_room-counts.result.words =
    put_same ∙ c.loop-counts.invariant.put ∙ ap (λ (k : ℕ). base_of c.args.tx.now.end c.args.counts.words ++ take k all) (sym c.look_for_room-counts.ensures.stored) in
    let run : List ℕ = take c.look_for_room-counts.result.free (drop c.look_for_room-counts.result.words all) in
    let end : c.store_run-counts.new.tx.end ≡ fold puts c.look_for_room-counts.new.tx.end run = ap (λ (o : SendingEnd). o.end) c.store_run-counts.ensures.end in
    let has : HasPut c.look_for_room-counts.new.tx.end (fold puts c.look_for_room-counts.new.tx.end run) run = has_put c.look_for_room-counts.new.tx.end run in
    record {
      kept = only_on c.args.tx.now c.look_for_room-counts.new.tx c.store_run-counts.new.tx (only_on c.args.tx.now c.loop-counts.tx c.look_for_room-counts.new.tx c.loop-counts.invariant.kept c.look_for_room-counts.ensures.kept) (only_is c.look_for_room-counts.new.tx c.store_run-counts.new.tx _ c.store_run-counts.ensures.end);
      steps = subst (Fills (length (base_of c.args.tx.now.end c.args.counts.words ++ all)) c.args.tx.now.end) (sym end) (stores_run _ _ c.look_for_room-counts.new.tx.end run steps);
      counted = c.store_run-counts.ensures.counted;
      found =
          let told : c.loop-counts.tx.told ≡ c.args.tx.now.told = ap (λ (o : SendingEnd). o.told) c.loop-counts.invariant.kept in
          let f = room_on c.args.tx.now.told c.args.tx.now.end c.loop-counts.tx.end c.look_for_room-counts.new.tx.end (changed _ _ _ c.loop-counts.invariant.steps).turn c.loop-counts.invariant.found
          (subst (λ (t : Option Receiving). RoomFound t c.loop-counts.tx.end c.look_for_room-counts.new.tx.end) told c.look_for_room-counts.ensures.found) in
          room_on c.args.tx.now.told c.args.tx.now.end c.look_for_room-counts.new.tx.end c.store_run-counts.new.tx.end (changed _ _ _ steps).turn f
          (room_same c.args.tx.now.told c.look_for_room-counts.new.tx.end c.store_run-counts.new.tx.end (ap (λ (s : Sending). s.looked) end ∙ has.looked.0) (ap (λ (s : Sending). s.room) end ∙ has.room));
      stored = omega (arith, low, c.store_run-counts.ensures.words);
      put = ap (λ (s : Sending). s.put) end ∙ has.put ∙ more_put _ _ _ c.look_for_room-counts.result.words c.look_for_room-counts.result.free _ (omega (arith, low)) c.store_run-counts.ensures.words here;
    }

pub loop-counts-smaller : goal.loop-counts-smaller
loop-counts-smaller c =
    let total = length-frame c.args.message.now in
    omega (arith, c.loop-counts-test.true, c.words_of-total.ensures, c.len.ensures.count, c.look_for_room-counts.ensures.stored, c.if-counts-eq0.false, c.store_run-counts.ensures.words)

pub returns-clause-all : goal.returns-clause-all
returns-clause-all c =
    let total = length-frame c.args.message.now in
    omega (arith, c.loop-counts-test.false, c.words_of-total.ensures, c.len.ensures.count, c.loop-counts.invariant.stored)

pub loop-counts-init : goal.loop-counts-init
loop-counts-init c = record { kept = refl; steps = enters; counted = c.requires.counted; stored = c.requires.stored; found = inl (refl, refl); put = c.requires.begins }

pub look_for_room-counts-requires-clause-stays : goal.look_for_room-counts-requires-clause-stays
look_for_room-counts-requires-clause-stays c = (changed _ _ _ c.loop-counts.invariant.steps).gone ∙ c.requires.stays

pub returns-then-counts-eq0-clause-found : goal.returns-then-counts-eq0-clause-found
returns-then-counts-eq0-clause-found c =
    let told : c.loop-counts.tx.told ≡ c.args.tx.now.told = ap (λ (o : SendingEnd). o.told) c.loop-counts.invariant.kept in
    room_on c.args.tx.now.told c.args.tx.now.end c.loop-counts.tx.end c.look_for_room-counts.new.tx.end (changed _ _ _ c.loop-counts.invariant.steps).turn c.loop-counts.invariant.found
    (subst (λ (t : Option Receiving). RoomFound t c.loop-counts.tx.end c.look_for_room-counts.new.tx.end) told c.look_for_room-counts.ensures.found)
