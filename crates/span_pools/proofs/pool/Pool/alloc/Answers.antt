use Rattle.std.proofs.Common.{◌≡◌, ◌+◌, ◌-◌, ◌*◌, ◌/◌, ◌<◌, ℕ, Some, refl, sym, ap, subst, ◌∙◌, arith}
use Rattle.word_map.specs.WordMap.{HasJust}
use Rattle.region_words.specs.Parts.{Owned}
use Rattle.span_pools.specs.Legal.{IsAlloc, IsFull}
use Rattle.span_pools.specs.View.{free_objects, mark_of, owns, state_of, IsSpare, IsTakenOut, IsPool}
use Rattle.span_pools.specs.PoolView.{PoolView}
use Rattle.span_pools.proofs.Shapes.{object_owned}
use Rattle.span_pools.proofs.Pools.{after_alloc, alloc_legal, all_live, chunk_just, chunk_bytes}
use Rattle.span_pools.proofs.FreeCounts.{count_alloc, count_none}
use Rattle.span_pools.proofs.Spares.{spare_room, spare_taken}
use Rattle.span_pools.proofs.pool.Pool.alloc.Goals as goal

one_less : (after before left : ℕ) → after + 1 ≡ before → left ≡ before → left - 1 ≡ after
one_less after before left e f = omega arith

pub returns-then-self-eq0-clause-full : goal.returns-then-self-eq0-clause-full
returns-then-self-eq0-clause-full c = subst (λ (b : PoolView). IsFull b.state b.state) c.self.view_is (record {
  all_live = all_live c.self.inside.layout c.self.inside.active c.self.inside.marks c.self.inside.records c.self.inside.words c.self.invariant.0
      (count_none c.self.inside.layout c.self.inside.active c.self.inside.marks c.self.inside.records c.self.inside.words c.self.invariant.0 (sym c.self.invariant.1 ∙ c.if-self-eq0.true));
  same = refl;
})

pub returns-in_err-page-clause-full : goal.returns-in_err-page-clause-full
returns-in_err-page-clause-full c = rw c.from_residual.ensures (
    subst (λ (b : PoolView). IsFull b.state (state_of c.self.inside.layout c.self.inside.active c.free_page.new.marks.words c.self.inside.words.words)) c.self.view_is
    (record { all_live = all_live c.self.inside.layout c.self.inside.active c.self.inside.marks c.self.inside.records c.self.inside.words c.self.invariant.0 c.in_err-page.ensures.none; same = ap (λ (o : Owned). state_of c.self.inside.layout c.self.inside.active o.words c.self.inside.words.words) c.in_err-page.ensures.same.0 }))

pub free_page-requires-clause-spare : goal.free_page-requires-clause-spare
free_page-requires-clause-spare c = spare_room c.self.inside.layout c.self.inside.active c.self.inside.spare c.self.inside.marks c.self.inside.records c.self.inside.words c.self.invariant.0 c.self.invariant.2

pub take_object-place-requires-clause-whole : goal.take_object-place-requires-clause-whole
take_object-place-requires-clause-whole c = λ i k low free inside. object_owned c.self.inside.layout (mark_of c.self.inside.layout c.self.inside.marks.words) (owns c.self.inside.words.words) _ i k c.self.invariant.0.layout c.self.invariant.0.shape c.in_ok-page.ensures.found.0 low free inside

pub invariant_of-result : goal.invariant_of-result
invariant_of-result c =
    let j = chunk_just c.self.inside.layout c.self.inside.active c.in_ok-page.page c.take_object-place.result.0 c.self.inside.marks c.self.inside.records c.self.inside.words c.take_object-place.new.records c.take_object-place.new.words c.take_object-place.result.1 c.self.invariant.0 c.in_ok-page.ensures.found.0 (subst (λ (o : Owned). IsTakenOut c.self.inside.layout c.in_ok-page.page o c.self.inside.words c.take_object-place.new.records c.take_object-place.new.words c.take_object-place.result.1 c.take_object-place.result.0) c.in_ok-page.ensures.same.1 c.take_object-place.ensures) in
    let b = chunk_bytes c.self.inside.layout.size in
    record {
      valid = subst (λ (z : ℕ). 0 < z) (sym c.of.ensures) j.0;
      whole = b.0;
      just = subst (λ (z : ℕ). HasJust c.take_object-place.result.1.words z (8 * c.self.inside.layout.size / 8)) (sym c.of.ensures) (subst (λ (z : ℕ). HasJust c.take_object-place.result.1.words c.take_object-place.result.0 z) (sym b.1) j.1);
    }

pub invariant_of-self-2 : goal.invariant_of-self-2
invariant_of-self-2 c =
    let out : IsTakenOut c.self.inside.layout c.in_ok-page.page c.self.inside.records c.self.inside.words c.take_object-place.new.records c.take_object-place.new.words c.take_object-place.result.1 c.take_object-place.result.0 = subst (λ (o : Owned). IsTakenOut c.self.inside.layout c.in_ok-page.page o c.self.inside.words c.take_object-place.new.records c.take_object-place.new.words c.take_object-place.result.1 c.take_object-place.result.0) c.in_ok-page.ensures.same.1 c.take_object-place.ensures in
    subst (λ (o : Owned). IsPool c.self.inside.layout (Some c.in_ok-page.page) o c.take_object-place.new.records c.take_object-place.new.words × (c.self.inside.left - 1 ≡ free_objects c.self.inside.layout o.words c.take_object-place.new.records.words) × IsSpare c.self.inside.layout c.other_than-self-inside.result o.words c.take_object-place.new.records.words) (sym c.in_ok-page.ensures.same.0) (
      after_alloc c.self.inside.layout c.self.inside.active c.in_ok-page.page c.take_object-place.result.0 c.self.inside.marks c.self.inside.records c.self.inside.words c.take_object-place.new.records c.take_object-place.new.words c.take_object-place.result.1 c.self.invariant.0 c.in_ok-page.ensures.found.0 c.in_ok-page.ensures.first out,
      one_less (free_objects c.self.inside.layout c.self.inside.marks.words c.take_object-place.new.records.words) (free_objects c.self.inside.layout c.self.inside.marks.words c.self.inside.records.words) c.self.inside.left
          (count_alloc c.self.inside.layout c.self.inside.active c.in_ok-page.page c.take_object-place.result.0 c.self.inside.marks c.self.inside.records c.self.inside.words c.take_object-place.new.records c.take_object-place.new.words c.take_object-place.result.1 c.self.invariant.0 c.in_ok-page.ensures.found.0 c.in_ok-page.ensures.found.1 out)
          c.self.invariant.1,
      spare_taken c.self.inside.layout c.self.inside.spare c.other_than-self-inside.result c.in_ok-page.page c.take_object-place.result.0 c.self.inside.marks.words c.self.inside.records c.self.inside.words c.take_object-place.new.records c.take_object-place.new.words c.take_object-place.result.1 c.self.invariant.2 c.other_than-self-inside.ensures out,
    )

pub returns-clause-given : goal.returns-clause-given
returns-clause-given c =
    subst (λ (b : PoolView). IsAlloc b.layout b.state c.of.result (state_of c.self.inside.layout (Some c.in_ok-page.page) c.free_page.new.marks.words c.take_object-place.new.words.words)) c.self.view_is
    (subst (λ (z : ℕ). IsAlloc c.self.inside.layout (state_of c.self.inside.layout c.self.inside.active c.self.inside.marks.words c.self.inside.words.words) z (state_of c.self.inside.layout (Some c.in_ok-page.page) c.free_page.new.marks.words c.take_object-place.new.words.words)) (sym c.of.ensures)
    (subst (λ (o : Owned). IsAlloc c.self.inside.layout (state_of c.self.inside.layout c.self.inside.active c.self.inside.marks.words c.self.inside.words.words) c.take_object-place.result.0 (state_of c.self.inside.layout (Some c.in_ok-page.page) o.words c.take_object-place.new.words.words)) (sym c.in_ok-page.ensures.same.0)
    (alloc_legal c.self.inside.layout c.self.inside.active c.in_ok-page.page c.take_object-place.result.0 c.self.inside.marks c.self.inside.records c.self.inside.words c.take_object-place.new.records c.take_object-place.new.words c.take_object-place.result.1 c.self.invariant.0 c.in_ok-page.ensures.found.0 c.in_ok-page.ensures.first (subst (λ (o : Owned). IsTakenOut c.self.inside.layout c.in_ok-page.page o c.self.inside.words c.take_object-place.new.records c.take_object-place.new.words c.take_object-place.result.1 c.take_object-place.result.0) c.in_ok-page.ensures.same.1 c.take_object-place.ensures))))
