use Rattle.std.proofs.Common.{rules, ℕ, ◌≡◌, ◌+◌, ◌/◌, IsSome, length, get_or, ap, sym, subst, ◌∙◌, arith}
use Rattle.std.specs.FinMap as fin
use Rattle.word_map.specs.WordMap.{at}
use Rattle.word_map.proofs.Maps.{just_has}
use Rattle.region_words.specs.Parts.{Owned, owned}
use Rattle.dshash_core.specs.Chains.{word, words_at}
use Rattle.dshash_core.proofs.Chains.{Stored, stored_next, words_are}
use Rattle.page_cache.proofs.Words.{first_at}
use Rattle.page_cache.proofs.page.store_page.Goals as goal

pub loop-i-preserved : goal.loop-i-preserved
loop-i-preserved c =
    let old = c.args.chunk.now in
    let p = c.loop-i.chunk.part in
    let words = c.args.page.now.words in
    let here : ℕ = old.at + c.loop-i.i in
    let inside = c.loop-i-test.true in
    let room = c.requires.room in
    let kept = c.loop-i.invariant.stored in
    let place = c.loop-i.invariant.place in
    let long : length words ≡ 1024 = search rules in
    let has : IsSome (at p.words here) = kept.keys here ∙ just_has old.part.words old.at (old.bytes / 8) here old.just (omega arith) (omega (arith, inside, room, long)) in
    let stored : c.store.new.self.part ≡ owned p.region (fin.insert p.words here (get_or words c.loop-i.i 0)) = c.store.ensures.part ∙ ap (λ (a : ℕ). owned p.region (fin.insert p.words (a + c.loop-i.i) (get_or words c.loop-i.i 0))) place.0 in
    record {
      stored = subst (λ (q : Owned). Stored old.part q old.at (c.loop-i.i + 1) words) (sym stored) (stored_next old.part p old.at c.loop-i.i words kept has);
      place = (c.store.ensures.place.0 ∙ place.0, c.store.ensures.place.1 ∙ place.1);
    }

pub returns-clause-words : goal.returns-clause-words
returns-clause-words c =
    let now = c.loop-i.chunk in
    let words = c.args.page.now.words in
    let place = c.loop-i.invariant.place in
    let room = c.requires.room in
    let long : length words ≡ 1024 = search rules in
    let all : words_at (word now.part.words) c.args.chunk.now.at (length words) ≡ words = words_are (word now.part.words) c.args.chunk.now.at words (λ k low. c.loop-i.invariant.stored.stored k (omega (arith, c.loop-i-test.false))) in
    let first = first_at (word now.part.words) now.at 1024 (now.bytes / 8) (omega (arith, place.1, room)) in
    let is = first ∙ ap (λ (a : ℕ). words_at (word now.part.words) a 1024) place.0 ∙ ap (λ (n : ℕ). words_at (word now.part.words) c.args.chunk.now.at n) (sym long) ∙ all in
    λ i. record { words = is i }
