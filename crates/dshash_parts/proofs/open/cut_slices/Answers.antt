use Rattle.std.proofs.Common.{◌≡◌, ℕ, ◌+◌, ◌<◌, IsSome, List, length, sym, ap, subst, ◌∙◌, arith, length-append}
use Rattle.word_map.specs.WordMap.{WordMap, at as word_at, rest_of}
use Rattle.word_map.proofs.Uses.{rest-has_behind}
use Rattle.region_words.specs.Parts.{Owned, owned}
use Rattle.region_words.specs.declared.chunk.Chunk.{Chunk}
use Rattle.dshash_parts.specs.Opening.{HaveWords}
use Rattle.dshash_parts.proofs.Slices.{rest_next, rest_none, words_next}
use Rattle.dshash_parts.proofs.open.cut_slices.Goals as goal

pub loop-cut-init : goal.loop-cut-init
loop-cut-init c =
    let last : c.args.from + 127 < 67108864 = c.is_small.ensures (c.args.from + 127) (c.requires.owns (c.args.from + 127) (omega arith) (omega arith)) in
    record {
      next = omega arith;
      low = omega (arith, last);
      rest = ap (λ (m : WordMap). owned c.args.part.now.region m) (sym (rest_none c.args.part.now.words c.args.from));
      count = ap length c.in_ok-slices.ensures.items;
      room = omega (arith, c.in_ok-slices.ensures.capacity);
      slices = subst (λ (l : List Chunk). HaveWords c.args.r.now l) (sym c.in_ok-slices.ensures.items) tt;
    }

pub split_chunk-requires-clause-here : goal.split_chunk-requires-clause-here
split_chunk-requires-clause-here c = ap (λ (o : Owned). o.region) c.loop-cut.invariant.rest ∙ c.requires.here

pub split_chunk-requires-clause-valid : goal.split_chunk-requires-clause-valid
split_chunk-requires-clause-valid c = omega (arith, c.loop-cut.invariant.next, c.requires.valid)

pub split_chunk-requires-clause-owns : goal.split_chunk-requires-clause-owns
split_chunk-requires-clause-owns c = λ k lo hi.
    let i = c.loop-cut.invariant in
    subst (λ (o : Owned). IsSome (word_at o.words k)) (sym i.rest)
    (rest-has_behind c.args.part.now.words c.args.from c.loop-cut._cut k (omega (arith, lo, i.next)) (c.requires.owns k (omega (arith, lo, i.next)) (omega (arith, hi, i.next, c.loop-cut-test.true))))

pub loop-cut-preserved : goal.loop-cut-preserved
loop-cut-preserved c =
    let i = c.loop-cut.invariant in
    let s = c.split_chunk.ensures in
    let more : length c.push_reserved.new.self.items ≡ length c.loop-cut.slices.items + 1 = ap length c.push_reserved.ensures.items ∙ length-append c.loop-cut.slices.items _ in
    let cut : owned c.loop-cut.part.region (rest_of c.loop-cut.part.words c.loop-cut.next 1) ≡ owned c.args.part.now.region (rest_of (rest_of c.args.part.now.words c.args.from c.loop-cut._cut) c.loop-cut.next 1) = ap (λ (o : Owned). owned o.region (rest_of o.words c.loop-cut.next 1)) i.rest in
    record {
      next = omega (arith, i.next);
      low = i.low;
      rest = s.rest ∙ cut ∙ ap (λ (m : WordMap). owned c.args.part.now.region m) (rest_next c.args.part.now.words c.args.from c.loop-cut._cut c.loop-cut.next i.next);
      count = omega (arith, more, i.count);
      room = omega (arith, i.room, c.push_reserved.ensures.capacity);
      slices = words_next c.args.r.now c.push_reserved.new.self.items c.loop-cut.slices.items c.split_chunk.result c.push_reserved.ensures.items i.slices (ap (λ (o : Owned). o.region) s.words ∙ ap (λ (o : Owned). o.region) i.rest ∙ c.requires.here) (omega (arith, s.place.1));
    }

pub returns-clause-here : goal.returns-clause-here
returns-clause-here c = ap (λ (o : Owned). o.region) c.loop-cut.invariant.rest ∙ c.requires.here

pub returns-clause-rest : goal.returns-clause-rest
returns-clause-rest c =
    let all : c.loop-cut._cut ≡ 128 = omega (arith, c.loop-cut-test.false, c.loop-cut.auto._cut-end) in
    c.loop-cut.invariant.rest ∙ ap (λ (n : ℕ). owned c.args.part.now.region (rest_of c.args.part.now.words c.args.from n)) all
