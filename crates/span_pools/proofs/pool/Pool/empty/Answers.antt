use Rattle.std.proofs.Common.{◌∙◌, ap, sym}
use Rattle.region_words.specs.Parts.{Owned}
use Rattle.span_pools.specs.PoolView.{pool_view}
use Rattle.span_pools.proofs.Empty.{rest_none, empty_pool, empty_state}
use Rattle.span_pools.proofs.FreeCounts.{count_empty}
use Rattle.span_pools.proofs.Spares.{spare_none}
use Rattle.span_pools.proofs.pool.Pool.empty.Goals as goal

pub clear_marks-requires-clause-bits : goal.clear_marks-requires-clause-bits
clear_marks-requires-clause-bits c = rw (c.split-words.ensures.rest, c.split-records.ensures.rest) (rest_none _ _ _ (rest_none _ _ _ c.requires.bits))

pub invariant_of-result : goal.invariant_of-result
invariant_of-result c = (
  empty_pool c.args.layout c.clear_marks.new.marks c.split-records.result c.split-words.result
      (ap (λ (o : Owned). o.region) c.split-records.ensures.range ∙ sym (c.clear_marks.ensures.region ∙ ap (λ (o : Owned). o.region) c.split-words.ensures.rest ∙ ap (λ (o : Owned). o.region) c.split-records.ensures.rest))
      (ap (λ (o : Owned). o.region) c.split-words.ensures.range ∙ sym (c.clear_marks.ensures.region ∙ ap (λ (o : Owned). o.region) c.split-words.ensures.rest))
      c.requires.layout c.clear_marks.ensures.bits c.clear_marks.ensures.clear _ _ (ap (λ (o : Owned). o.words) c.split-records.ensures.range) (ap (λ (o : Owned). o.words) c.split-words.ensures.range),
  sym (count_empty c.args.layout c.clear_marks.new.marks.words c.split-records.result.words c.clear_marks.ensures.clear),
  spare_none c.args.layout c.clear_marks.new.marks.words c.split-records.result.words,
)

pub returns : goal.returns
returns c = λ i. pool_view ((c.clear_marks.ensures.region ∙ ap (λ (o : Owned). o.region) c.split-words.ensures.rest ∙ ap (λ (o : Owned). o.region) c.split-records.ensures.rest ∙ c.requires.here) i) c.args.layout (empty_state c.args.layout c.clear_marks.new.marks.words c.split-words.result.words c.clear_marks.ensures.clear i)
