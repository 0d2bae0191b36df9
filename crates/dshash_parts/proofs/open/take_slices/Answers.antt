use Rattle.std.proofs.Common.{◌≡◌, ℕ, ◌+◌, length, replicate, refl, sym, ap, subst, ◌∙◌, arith, length-append, List, inl}
use Rattle.region_words.specs.declared.chunk.Chunk.{Chunk}
use Rattle.dshash_parts.specs.Traces.{Got}
use Rattle.dshash_parts.specs.Opening.{Asks, AreSlices}
use Rattle.dshash_parts.proofs.Opening.{slices_next, asks_next, asks_refused}
use Rattle.dshash_parts.proofs.open.take_slices.Goals as goal

pub loop-taken-init : goal.loop-taken-init
loop-taken-init g c = record {
  own = c.requires.own;
  caller = refl;
  count = ap length c.in-Ok.ensures.items;
  room = omega (arith, c.in-Ok.ensures.capacity);
  slices = subst (λ (l : List Chunk). AreSlices c.args.r.now l) (sym c.in-Ok.ensures.items) tt;
  asked = refl;
}

pub loop-taken-preserved : goal.loop-taken-preserved
loop-taken-preserved g c =
    let i = c.loop-taken.invariant in
    let more : length c.push_reserved.new.self.items ≡ length c.loop-taken.slices.items + 1 = ap length c.push_reserved.ensures.items ∙ length-append c.loop-taken.slices.items _ in
    record {
      own = c.in-Ok-ask.ensures.own;
      caller = c.in-Ok-ask.ensures.caller ∙ i.caller;
      count = omega (arith, more, i.count);
      room = omega (arith, i.room, c.push_reserved.ensures.capacity);
      slices = slices_next c.args.r.now c.push_reserved.new.self.items c.loop-taken.slices.items c.in-Ok-ask.slice c.push_reserved.ensures.items i.slices c.in-Ok-ask.ensures.here c.in-Ok-ask.ensures.holds c.in-Ok-ask.ensures.size;
      asked = asks_next c.args.area.now c.args.apass.now c.loop-taken.apass c.ask.new.apass c.loop-taken._taken (c.loop-taken._taken + 1) (Got 8) refl i.asked c.in-Ok-ask.ensures.asked;
    }

pub returns-in-Err-ask-clause-refused : goal.returns-in-Err-ask-clause-refused
returns-in-Err-ask-clause-refused g c =
    let i = c.loop-taken.invariant in
    asks_refused c.args.area.now c.args.apass.now c.loop-taken.apass c.ask.new.apass c.give_slices.new.apass c.loop-taken._taken (length c.loop-taken.slices.items) c.in-Err-ask.field-0.pages c.in-Err-ask.field-0.largest
    i.count c.loop-taken-test.true i.asked c.in-Err-ask.ensures.asked c.give_slices.ensures.gave

pub returns-clause-asked : goal.returns-clause-asked
returns-clause-asked g c =
    let all : c.loop-taken._taken ≡ 128 = omega (arith, c.loop-taken-test.false, c.loop-taken.auto._taken-end) in
    subst (λ (n : ℕ). Asks c.args.area.now c.args.apass.now c.loop-taken.apass (replicate n (Got 8))) all c.loop-taken.invariant.asked

pub returns-in-Err-clause-refused : goal.returns-in-Err-clause-refused
returns-in-Err-clause-refused g c = inl refl
