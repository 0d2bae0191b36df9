use Rattle.std.proofs.Common.{◌≡◌, ℕ, ◌+◌, ◌/◌, ◌≤◌, None, refl, ap, sym, subst, ◌∙◌, arith}
use Rattle.atomic_table.specs.Seated.{TableId}
use Rattle.word_map.specs.WordMap.{WordMap, HasJust, rest_of, values_from}
use Rattle.word_map.proofs.Maps.{just_has}
use Rattle.ring_rule.specs.Ring.{IsRing}
use Rattle.ring_rule.specs.Ends.{first_sending}
use Rattle.region_rule.specs.RingMap.{IsFresh}
use Rattle.region_words.proofs.Seats.{Mine}
use Rattle.region_words.specs.Parts.{Owned, own_map, IsSized}
use Rattle.region_words.proofs.Chunks.{just_after}
use Rattle.mq_ring.specs.Ends.{sending_end, ring_of}
use Rattle.mq_ring.proofs.Makings.{fresh_map, first_row, three_stores, fresh_just, fresh_ring, cells_kept, rest_nothing, rest_row, inside_of}
use Rattle.mq_ring.proofs.making.Ring.create.Goals as goal

pub store-requires-clause-owns : goal.store-requires-clause-owns
store-requires-clause-owns c =
    let b = c.word-base.result in
    let few : c.args.words + 3 ≤ c.args.chunk.bytes / 8 = let r = c.requires.room in omega arith in
    let j = first_row c.args.chunk.part.words c.args.chunk.at (c.args.chunk.bytes / 8) b c.args.words c.args.chunk.just c.word-base.ensures few in
    rw c.split-part.ensures.range (just_has _ b (c.args.words + 3) b j (omega arith) (omega arith))

pub overflow_add-base : goal.overflow_add-base
overflow_add-base c =
    let r = c.requires.room in
    let e = c.word-base.ensures in
    let s = c.is_small.ensures c.word-base.result (just_has _ _ _ c.word-base.result c.args.chunk.just (omega arith) (omega arith)) in omega (arith, s)

pub store-requires-2-clause-owns : goal.store-requires-2-clause-owns
store-requires-2-clause-owns c =
    let b = c.word-base.result in
    let few : c.args.words + 3 ≤ c.args.chunk.bytes / 8 = let r = c.requires.room in omega arith in
    let j = first_row c.args.chunk.part.words c.args.chunk.at (c.args.chunk.bytes / 8) b c.args.words c.args.chunk.just c.word-base.ensures few in
    let j0 : HasJust c.split-part.result.words b (c.args.words + 3) = rw c.split-part.ensures.range j in
    let j1 = just_after c.store.new.self c.split-part.result b c.args.from b (c.args.words + 3) j0 (just_has _ b (c.args.words + 3) b j0 (omega arith) (omega arith)) c.store.ensures in
    just_has _ b (c.args.words + 3) (b + 1) j1 (omega arith) (omega arith)

pub overflow_add-base-2 : goal.overflow_add-base-2
overflow_add-base-2 c =
    let r = c.requires.room in
    let e = c.word-base.ensures in
    let s = c.is_small.ensures c.word-base.result (just_has _ _ _ c.word-base.result c.args.chunk.just (omega arith) (omega arith)) in omega (arith, s)

pub store-requires-3-clause-owns : goal.store-requires-3-clause-owns
store-requires-3-clause-owns c =
    let b = c.word-base.result in
    let n = c.args.words + 3 in
    let few : c.args.words + 3 ≤ c.args.chunk.bytes / 8 = let r = c.requires.room in omega arith in
    let j = first_row c.args.chunk.part.words c.args.chunk.at (c.args.chunk.bytes / 8) b c.args.words c.args.chunk.just c.word-base.ensures few in
    let j0 : HasJust c.split-part.result.words b (c.args.words + 3) = rw c.split-part.ensures.range j in
    let j1 = just_after c.store.new.self c.split-part.result b c.args.from b (c.args.words + 3) j0 (just_has _ b (c.args.words + 3) b j0 (omega arith) (omega arith)) c.store.ensures in
    let j2 = just_after c.store-2.new.self c.store.new.self (b + 1) c.args.from b (c.args.words + 3) j1 (just_has _ b (c.args.words + 3) (b + 1) j1 (omega arith) (omega arith)) c.store-2.ensures in
    just_has _ b (c.args.words + 3) (b + 2) j2 (omega arith) (omega arith)

pub into_copied_seat-seat-requires-clause-owns : goal.into_copied_seat-seat-requires-clause-owns
into_copied_seat-seat-requires-clause-owns c = λ k low high.
    let b = c.word-base.result in
    let m = c.args.chunk.part.words in
    let w = c.args.words in
    let few : c.args.words + 3 ≤ c.args.chunk.bytes / 8 = let r = c.requires.room in omega arith in
    let j = first_row m c.args.chunk.at (c.args.chunk.bytes / 8) b w c.args.chunk.just c.word-base.ensures few in
    let part = three_stores c.split-part.result c.store.new.self c.store-2.new.self c.store-3.new.self _ m b w c.args.from c.split-part.ensures.range c.store.ensures c.store-2.ensures c.store-3.ensures in
    let just : HasJust c.store-3.new.self.words b (w + 3) = subst (λ (n : WordMap). HasJust n b (w + 3)) (sym (ap (λ (o : Owned). o.words) part)) (fresh_just m b w c.args.from j) in
    just_has c.store-3.new.self.words b (w + 3) k just low (omega arith)

pub invariant_of-site : goal.invariant_of-site
invariant_of-site c =
    let few : c.args.words + 3 ≤ c.args.chunk.bytes / 8 = let r = c.requires.room in omega arith in
    record {
      valid = rw c.word-base.ensures c.args.chunk.valid;
      whole = c.args.chunk.whole;
      room = c.requires.room;
      behind = rest_row c.split.new.self c.split-part.new.self c.args.chunk.part.words _ c.args.chunk.at (c.args.chunk.bytes / 8) c.word-base.result c.args.words c.args.chunk.just c.word-base.ensures few
          c.split-part.ensures.rest c.split.ensures.rest;
    }

pub part_ends-requires-clause-fresh : goal.part_ends-requires-clause-fresh
part_ends-requires-clause-fresh c =
    let b = c.word-base.result in
    let m = c.args.chunk.part.words in
    let w = c.args.words in
    let few : c.args.words + 3 ≤ c.args.chunk.bytes / 8 = let r = c.requires.room in omega arith in
    let j = first_row m c.args.chunk.at (c.args.chunk.bytes / 8) b w c.args.chunk.just c.word-base.ensures few in
    let words : c.store-3.new.self.words ≡ fresh_map m b w c.args.from =
    ap (λ (o : Owned). o.words) (three_stores c.split-part.result c.store.new.self c.store-2.new.self c.store-3.new.self _ m b w c.args.from c.split-part.ensures.range c.store.ensures c.store-2.ensures c.store-3.ensures) in
    let ring : IsRing (ring_of b w c.args.from c.args.max) = record { power = c.requires.power; start = omega (arith, c.ranges.from); max = c.requires.max } in
    subst (λ (n : WordMap). IsFresh n (ring_of b w c.args.from c.args.max)) (sym (ap (λ (x : Mine). own_map x.0.view) c.into_copied_seat-seat.ensures.copied ∙ words)) (fresh_ring m b w c.args.from c.args.max j ring)

pub part_ends-requires-clause-lies : goal.part_ends-requires-clause-lies
part_ends-requires-clause-lies c =
    let b = c.word-base.result in
    let m = c.args.chunk.part.words in
    let w = c.args.words in
    let few : c.args.words + 3 ≤ c.args.chunk.bytes / 8 = let r = c.requires.room in omega arith in
    let j = first_row m c.args.chunk.at (c.args.chunk.bytes / 8) b w c.args.chunk.just c.word-base.ensures few in
    let part = three_stores c.split-part.result c.store.new.self c.store-2.new.self c.store-3.new.self _ m b w c.args.from c.split-part.ensures.range c.store.ensures c.store-2.ensures c.store-3.ensures in
    let here : c.store-3.new.self.region ≡ c.args.r.now = ap (λ (o : Owned). o.region) part ∙ c.requires.here in
    let just : HasJust c.store-3.new.self.words b (w + 3) = subst (λ (n : WordMap). HasJust n b (w + 3)) (sym (ap (λ (o : Owned). o.words) part)) (fresh_just m b w c.args.from j) in
    let inside = inside_of c.store-3.new.self.words b w c.store-3.new.self.region.words just c.into_copied_seat-seat.ensures.below in
    record {
      ring = record { power = c.requires.power; start = omega (arith, c.ranges.from); max = c.requires.max };
      base_is = refl;
      size_is = refl;
      max_is = refl;
      inside = subst (λ (t : TableId). b + 3 + w ≤ t.words) here inside;
      sized = subst IsSized here c.into_copied_seat-seat.ensures.sized;
    }

pub returns-clause-tx : goal.returns-clause-tx
returns-clause-tx c =
    let b = c.word-base.result in
    let m = c.args.chunk.part.words in
    let w = c.args.words in
    let e = c.word-base.ensures in
    let words : c.store-3.new.self.words ≡ fresh_map m b w c.args.from =
    ap (λ (o : Owned). o.words) (three_stores c.split-part.result c.store.new.self c.store-2.new.self c.store-3.new.self _ m b w c.args.from c.split-part.ensures.range c.store.ensures c.store-2.ensures c.store-3.ensures) in
    let map = ap (λ (x : Mine). own_map x.0.view) c.into_copied_seat-seat.ensures.copied ∙ words in
    let cells : values_from (own_map c.into_copied_seat-seat.result.me.0.view) (b + 3) w ≡ values_from m (b + 3) w =
    ap (λ (n : WordMap). values_from n (b + 3) w) map ∙ cells_kept m b w c.args.from (b + 3) w (omega arith) (omega arith) in
    let rest : c.split.new.self.words ≡ rest_of m b (w + 3) = ap (λ (o : Owned). o.words) c.split.ensures.rest ∙ rest_nothing c.split-part.new.self.words b ∙ ap (λ (o : Owned). o.words) c.split-part.ensures.rest in
    c.part_ends.ensures.tx ∙ (λ i. sending_end c.args.r.now (first_sending (ring_of b w c.args.from c.args.max) (cells i)) None (rest i) c.args.chunk.bytes)
    ∙ ap (λ (x : ℕ). sending_end c.args.r.now (first_sending (ring_of x w c.args.from c.args.max) (values_from m (x + 3) w)) None (rest_of m x (w + 3)) c.args.chunk.bytes) e
