use Rattle.std.proofs.Common.{◌≡◌, ◌≢◌, ◌<◌, ◌+◌, ◌-◌, ◌*◌, ◌/◌, ◌∙◌, slice_index_or, Some, inl, inr, ◌^◌, ap, arith, subst, sym, unwrap_or}
use Rattle.std.proofs.lemmas.Bool.{cases_lt, cases_order}
use Rattle.std.specs.FinMap as fin
use Rattle.par_model.specs.PlanLayout.{unused}
use Rattle.plan_descriptor.proofs.Values.{values_from-is}
use Rattle.plan_descriptor.proofs.Writable.{writable}
use Rattle.plan_descriptor.specs.Descriptor.{plan_word, plan_words}
use Rattle.region_words.specs.Parts.{Owned}
use Rattle.word_map.specs.WordMap.{at, WordMap}
use Rattle.word_map.proofs.Maps.{at-insert_other, at-insert_same}
use Rattle.plan_descriptor.proofs.write_plan.Goals as goal

pub words-preserved : goal.words-preserved
words-preserved c =
    let inv = c.words.invariant in
    let before = c.words.chunk.part.words in
    let put = ap (λ (o : Owned). o.words) c.store.ensures.part in
    let place = c.store.ensures.place.0 in
    record {
      stored = λ k low.
          let there = ap (λ (m : WordMap). at m (c.store.new.self.at + k)) put ∙ ap (λ p. at (fin.insert before (c.words.chunk.at + c.words.place) c.plan_word-word.result) (p + k)) place in
          elim (cases_order k c.words.place) [
            | inl e ↦
                let same : c.words.chunk.at + k ≡ c.words.chunk.at + c.words.place = ap (λ n. c.words.chunk.at + n) e in
                there ∙ at-insert_same before (c.words.chunk.at + c.words.place) c.plan_word-word.result (c.words.chunk.at + k) same
                ∙ ap Some (c.plan_word-word.ensures.word ∙ ap (plan_word 2 c.args.plan.now) (sym e))
            | inr order ↦
                let other : c.words.chunk.at + k ≢ c.words.chunk.at + c.words.place = λ same. elim order [ inl a ↦ omega arith | inr b ↦ omega arith ] in
                there ∙ at-insert_other before (c.words.chunk.at + c.words.place) c.plan_word-word.result (c.words.chunk.at + k) other ∙ inv.stored k (omega arith)
          ];
      narrow = λ k low section. elim (cases_lt k c.words.place) [
        | inl before ↦ inv.narrow k before section
        | inr past ↦
            let same : c.words.place ≡ k = omega arith in
            subst (λ n. plan_word 2 c.args.plan.now n < 2 ^ 32) same (rw (← c.plan_word-word.ensures.word) (c.plan_word-word.ensures.narrow (omega arith)))
      ];
      columns = λ i low few. elim (cases_lt (12 + 2 * i) c.words.place) [
        | inl before ↦ inv.columns i before few
        | inr past ↦
            let same : (c.words.place - 12) / 2 ≡ i = omega arith in
            subst (λ n. (slice_index_or c.args.plan.now.items n unused).column < 2 ^ 32) same (c.plan_word-word.ensures.item (omega arith) (omega arith))
      ];
      value = λ past. elim (cases_lt 28 c.words.place) [ inl before ↦ inv.value before | inr now ↦ c.plan_word-word.ensures.value (omega arith) ];
      place = place ∙ inv.place;
      bytes = c.store.ensures.place.1 ∙ inv.bytes;
      region = ap (λ (o : Owned). o.region) c.store.ensures.part ∙ inv.region;
    }

pub returns-clause-words : goal.returns-clause-words
unfolding plan_words
returns-clause-words c =
    let inv = c.words.invariant in
    let m = c.words.chunk.part.words in
    let version = ap (λ o. unwrap_or o 0) (inv.stored 0 (omega arith)) in
    let same : c.words.chunk.at + 0 ≡ c.words.chunk.at = omega arith in
    rw (rw same at version) (values_from-is m (plan_word 2 c.args.plan.now) c.words.chunk.at 32 (λ k low. inv.stored k (omega arith)))

pub returns-clause-plan : goal.returns-clause-plan
returns-clause-plan c =
    let inv = c.words.invariant in
    writable c.args.plan.now c.requires.plain c.has_room.ensures (λ k low. inv.narrow k (omega arith) low) (λ i low. inv.columns i (omega arith) low) (inv.value (omega arith))
