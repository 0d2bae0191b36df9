use Rattle.std.proofs.Common.{◌≡◌, ◌≢◌, ℕ, ◌+◌, ◌-◌, ◌*◌, ◌/◌, ◌<◌, ◌≤◌, inl, inr, Some, false, refl, sym, ap, subst, ◌∙◌, arith}
use Rattle.region_words.specs.Parts.{Owned}
use Rattle.span_pools.specs.Legal.{IsStranger, IsEmptied, IsFreed}
use Rattle.span_pools.specs.View.{free_objects, state_of, IsSpare, IsMarked, IsReleased, IsPutBack, IsPool}
use Rattle.span_pools.specs.PoolView.{PoolView, IsSuperblock}
use Rattle.word_map.specs.WordMap.{HasJust}
use Rattle.word_map.proofs.Maps.{within_true}
use Rattle.span_pools.proofs.Pools.{no_bool}
use Rattle.span_pools.proofs.FreeLists.{room_most}
use Rattle.span_pools.proofs.Covers.{objects_small}
use Rattle.span_pools.proofs.RecordStores.{apart_none, some_same}
use Rattle.span_pools.proofs.Frees.{is_last, after_free, free_legal, last_whole, after_emptied, emptied_legal, run_just, stranger_is}
use Rattle.span_pools.proofs.FreeCounts.{count_emptied, count_few, count_free}
use Rattle.span_pools.proofs.Spares.{spare_emptied, spare_freed}
use Rattle.span_pools.proofs.pool.Pool.free.Goals as goal
use Rattle.span_pools.proofs.pool.Pool.free.Goals.{else-free-self-via-then-free-self+else-not-is_page, else-free-self-via-else-free-self}

gone : (after before room left : ℕ) → after + room ≡ before → left ≡ before → left - room ≡ after
gone after before room left e f = omega arith

eighth : (bytes size : ℕ) → bytes ≡ 8 * size → bytes / 8 ≡ size
eighth bytes size e = omega arith

pub returns-in_default-clause-refused : goal.returns-in_default-clause-refused
returns-in_default-clause-refused c =
    let l = c.self.inside.layout in
    let active = c.self.inside.active in
    let x = c.args.object in
    let long : x.bytes ≡ 8 * l.size → 1 ≤ x.bytes / 8 = λ e. let s = c.self.invariant.0.layout.size in omega (arith, s, e) in
    subst (λ (b : PoolView). IsStranger b.layout b.state x.at x.bytes (state_of l active c.holder.new.marks.words c.hand_back.new.words.words)) c.self.view_is
    (stranger_is l active x.at x.bytes c.self.inside.marks.words c.self.inside.words.words _ c.self.invariant.0.shape (λ q i m low e. c.in_default.ensures.none q i m low (c.word-place.ensures ∙ e))
    (λ e. let some = long e in apart_none c.self.inside.words.words x.part.words x.at (x.bytes / 8) x.at c.hand_back.ensures.apart x.just (within_true x.at (x.bytes / 8) x.at (omega arith) (omega (arith, some))))
    (ap (λ (o : Owned). state_of l active o.words c.hand_back.new.words.words) c.in_default.ensures.same ∙ ap (λ (o : Owned). state_of l active c.self.inside.marks.words o.words) c.hand_back.ensures.same))

pub overflow_add-free : goal.overflow_add-free
overflow_add-free c =
    let b = c.self.invariant.0.records_say c.in-Some.page c.in-Some.ensures.found.0 in
    let low : c.room-free.result ≤ 8192 = small b.room c.room-free.result c.self.inside.layout.objects (some_same b.room c.room-free.result (sym b.room_is ∙ c.room-free.ensures.room)) (room_most _ _ _ _ _ _ b.lists) (objects_small c.self.inside.layout c.self.invariant.0.layout) in
    omega (arith, low)
  where
    small : (a b n : ℕ) → a ≡ b → a ≤ n → n ≤ 8192 → b ≤ 8192
    small a b n e h k = omega arith

pub overflow_sub-self : goal.overflow_sub-self
overflow_sub-self c =
    let out : IsReleased c.self.inside.layout c.in-Some.page c.self.inside.records c.self.inside.words c.args.object.part c.release-words.new.records c.release-words.new.words c.release-words.result.0 c.release-words.result.1 = subst (λ (o : Owned). IsReleased c.self.inside.layout c.in-Some.page o c.self.inside.words c.args.object.part c.release-words.new.records c.release-words.new.words c.release-words.result.0 c.release-words.result.1) c.room-free.ensures.same c.release-words.ensures in
    let mark : IsMarked c.self.inside.layout c.in-Some.page false c.self.inside.marks c.clear_mark.new.marks = subst (λ (o : Owned). IsMarked c.self.inside.layout c.in-Some.page false o c.clear_mark.new.marks) c.in-Some.ensures.same c.clear_mark.ensures in
    within (free_objects c.self.inside.layout c.clear_mark.new.marks.words c.release-words.new.records.words) (free_objects c.self.inside.layout c.self.inside.marks.words c.self.inside.records.words) c.room-free.result c.self.inside.left
    (count_emptied c.self.inside.layout c.self.inside.active c.in-Some.page c.in-Some.ensures.found.1 c.args.object.at c.room-free.result c.self.inside.marks c.clear_mark.new.marks c.self.inside.records c.self.inside.words c.args.object.part c.release-words.new.records c.release-words.new.words c.release-words.result.0 c.release-words.result.1 c.self.invariant.0 c.in-Some.ensures.found.0 c.room-free.ensures.room mark out)
    c.self.invariant.1
  where
    within : (after before room left : ℕ) → after + room ≡ before → left ≡ before → room ≤ left
    within after before room left e f = omega arith

pub overflow_add-self : goal.overflow_add-self
overflow_add-self c =
    let low : c.self.inside.left < 2147483648 = subst (λ (z : ℕ). z < 2147483648) (sym c.self.invariant.1) (count_few c.self.inside.layout c.self.inside.active c.self.inside.marks c.self.inside.records c.self.inside.words c.self.invariant.0) in
    omega (arith, low)

pub release-words-requires-clause-words : goal.release-words-requires-clause-words
release-words-requires-clause-words c = λ apart k inside.
    let last = is_last c.self.inside.layout c.in-Some.page c.in-Some.ensures.found.1 c.args.object.at c.room-free.result c.self.inside.records c.self.inside.words c.args.object.part c.in-Some.ensures.found.2 (sym c.word-place.ensures ∙ c.in-Some.ensures.found.3)
    (subst (λ (z : ℕ). HasJust c.args.object.part.words c.args.object.at z) (eighth c.args.object.bytes c.self.inside.layout.size c.if-object-self.false) c.args.object.just) c.room-free.ensures.room c.if-free-self.true apart in
    last_whole c.self.inside.layout c.self.inside.active c.in-Some.page c.in-Some.ensures.found.1 c.args.object.at k c.self.inside.marks c.self.inside.records c.self.inside.words c.args.object.part c.self.invariant.0 c.in-Some.ensures.found.0 last inside

pub invariant_of-result : goal.invariant_of-result
invariant_of-result c =
    let out : IsReleased c.self.inside.layout c.in-Some.page c.self.inside.records c.self.inside.words c.args.object.part c.release-words.new.records c.release-words.new.words c.release-words.result.0 c.release-words.result.1 = subst (λ (o : Owned). IsReleased c.self.inside.layout c.in-Some.page o c.self.inside.words c.args.object.part c.release-words.new.records c.release-words.new.words c.release-words.result.0 c.release-words.result.1) c.room-free.ensures.same c.release-words.ensures in
    let last = is_last c.self.inside.layout c.in-Some.page c.in-Some.ensures.found.1 c.args.object.at c.room-free.result c.self.inside.records c.self.inside.words c.args.object.part c.in-Some.ensures.found.2 (sym c.word-place.ensures ∙ c.in-Some.ensures.found.3)
    (subst (λ (z : ℕ). HasJust c.args.object.part.words c.args.object.at z) (eighth c.args.object.bytes c.self.inside.layout.size c.if-object-self.false) c.args.object.just) c.room-free.ensures.room c.if-free-self.true out.apart in
    let j = run_just c.self.inside.layout c.self.inside.active c.in-Some.page c.in-Some.ensures.found.1 c.args.object.at c.self.inside.marks c.self.inside.records c.self.inside.words c.args.object.part c.release-words.new.records c.release-words.new.words c.release-words.result.0 c.release-words.result.1 c.self.invariant.0 c.in-Some.ensures.found.0 last out in
    record {
      valid = (let a = c.self.invariant.0.layout.valid in let b = c.self.invariant.0.layout.records in let d = c.self.invariant.0.layout.marks in omega (arith, c.of.ensures));
      just = subst (λ (z : ℕ). HasJust c.release-words.result.0.words z 8192) (sym c.of.ensures) j.0;
    }

pub invariant_of-self-then-not-is_page : goal.invariant_of-self-then-not-is_page
invariant_of-self-then-not-is_page c =
    let out : IsReleased c.self.inside.layout c.in-Some.page c.self.inside.records c.self.inside.words c.args.object.part c.release-words.new.records c.release-words.new.words c.release-words.result.0 c.release-words.result.1 = subst (λ (o : Owned). IsReleased c.self.inside.layout c.in-Some.page o c.self.inside.words c.args.object.part c.release-words.new.records c.release-words.new.words c.release-words.result.0 c.release-words.result.1) c.room-free.ensures.same c.release-words.ensures in
    let last = is_last c.self.inside.layout c.in-Some.page c.in-Some.ensures.found.1 c.args.object.at c.room-free.result c.self.inside.records c.self.inside.words c.args.object.part c.in-Some.ensures.found.2 (sym c.word-place.ensures ∙ c.in-Some.ensures.found.3)
    (subst (λ (z : ℕ). HasJust c.args.object.part.words c.args.object.at z) (eighth c.args.object.bytes c.self.inside.layout.size c.if-object-self.false) c.args.object.just) c.room-free.ensures.room c.if-free-self.true out.apart in
    let idle : c.self.inside.active ≢ Some c.in-Some.page = λ e. no_bool _ (c.if-not-is_page.ensures.no e) refl in
    let mark : IsMarked c.self.inside.layout c.in-Some.page false c.self.inside.marks c.clear_mark.new.marks = subst (λ (o : Owned). IsMarked c.self.inside.layout c.in-Some.page false o c.clear_mark.new.marks) c.in-Some.ensures.same c.clear_mark.ensures in (
      after_emptied c.self.inside.layout c.self.inside.active c.in-Some.page c.in-Some.ensures.found.1 c.args.object.at c.self.inside.marks c.clear_mark.new.marks c.self.inside.records c.self.inside.words c.args.object.part c.release-words.new.records c.release-words.new.words c.release-words.result.0 c.release-words.result.1 c.self.invariant.0 c.in-Some.ensures.found.0 last idle mark out,
      gone (free_objects c.self.inside.layout c.clear_mark.new.marks.words c.release-words.new.records.words) (free_objects c.self.inside.layout c.self.inside.marks.words c.self.inside.records.words) c.room-free.result c.self.inside.left
          (count_emptied c.self.inside.layout c.self.inside.active c.in-Some.page c.in-Some.ensures.found.1 c.args.object.at c.room-free.result c.self.inside.marks c.clear_mark.new.marks c.self.inside.records c.self.inside.words c.args.object.part c.release-words.new.records c.release-words.new.words c.release-words.result.0 c.release-words.result.1 c.self.invariant.0 c.in-Some.ensures.found.0 c.room-free.ensures.room mark out)
          c.self.invariant.1,
      spare_emptied c.self.inside.layout c.self.inside.active c.self.inside.spare c.other_than-self-inside.result c.in-Some.page c.self.inside.marks c.clear_mark.new.marks c.self.inside.records c.self.inside.words c.args.object.part c.release-words.new.records c.release-words.new.words c.release-words.result.0 c.release-words.result.1
          c.self.invariant.0 c.in-Some.ensures.found.0 c.self.invariant.2 c.other_than-self-inside.ensures mark out,
    )

pub returns-then-not-is_page-clause-whole : goal.returns-then-not-is_page-clause-whole
returns-then-not-is_page-clause-whole c =
    let out : IsReleased c.self.inside.layout c.in-Some.page c.self.inside.records c.self.inside.words c.args.object.part c.release-words.new.records c.release-words.new.words c.release-words.result.0 c.release-words.result.1 = subst (λ (o : Owned). IsReleased c.self.inside.layout c.in-Some.page o c.self.inside.words c.args.object.part c.release-words.new.records c.release-words.new.words c.release-words.result.0 c.release-words.result.1) c.room-free.ensures.same c.release-words.ensures in
    let last = is_last c.self.inside.layout c.in-Some.page c.in-Some.ensures.found.1 c.args.object.at c.room-free.result c.self.inside.records c.self.inside.words c.args.object.part c.in-Some.ensures.found.2 (sym c.word-place.ensures ∙ c.in-Some.ensures.found.3)
    (subst (λ (z : ℕ). HasJust c.args.object.part.words c.args.object.at z) (eighth c.args.object.bytes c.self.inside.layout.size c.if-object-self.false) c.args.object.just) c.room-free.ensures.room c.if-free-self.true out.apart in
    let idle : c.self.inside.active ≢ Some c.in-Some.page = λ e. no_bool _ (c.if-not-is_page.ensures.no e) refl in
    let mark : IsMarked c.self.inside.layout c.in-Some.page false c.self.inside.marks c.clear_mark.new.marks = subst (λ (o : Owned). IsMarked c.self.inside.layout c.in-Some.page false o c.clear_mark.new.marks) c.in-Some.ensures.same c.clear_mark.ensures in
    subst (λ (b : PoolView). IsEmptied b.layout b.state c.args.object.at c.args.object.bytes c.of.result (state_of c.self.inside.layout c.self.inside.active c.clear_mark.new.marks.words c.release-words.new.words.words)) c.self.view_is
    (emptied_legal c.self.inside.layout c.self.inside.active c.in-Some.page c.in-Some.ensures.found.1 c.args.object.at c.args.object.bytes c.of.result c.self.inside.marks c.clear_mark.new.marks c.self.inside.records c.self.inside.words c.args.object.part c.release-words.new.records c.release-words.new.words c.release-words.result.0 c.release-words.result.1 c.self.invariant.0 c.in-Some.ensures.found.0 last idle mark out c.if-object-self.false c.of.ensures)

pub returns-then-not-is_page-clause-run : goal.returns-then-not-is_page-clause-run
returns-then-not-is_page-clause-run c =
    let out : IsReleased c.self.inside.layout c.in-Some.page c.self.inside.records c.self.inside.words c.args.object.part c.release-words.new.records c.release-words.new.words c.release-words.result.0 c.release-words.result.1 = subst (λ (o : Owned). IsReleased c.self.inside.layout c.in-Some.page o c.self.inside.words c.args.object.part c.release-words.new.records c.release-words.new.words c.release-words.result.0 c.release-words.result.1) c.room-free.ensures.same c.release-words.ensures in
    let last = is_last c.self.inside.layout c.in-Some.page c.in-Some.ensures.found.1 c.args.object.at c.room-free.result c.self.inside.records c.self.inside.words c.args.object.part c.in-Some.ensures.found.2 (sym c.word-place.ensures ∙ c.in-Some.ensures.found.3)
    (subst (λ (z : ℕ). HasJust c.args.object.part.words c.args.object.at z) (eighth c.args.object.bytes c.self.inside.layout.size c.if-object-self.false) c.args.object.just) c.room-free.ensures.room c.if-free-self.true out.apart in
    let j = run_just c.self.inside.layout c.self.inside.active c.in-Some.page c.in-Some.ensures.found.1 c.args.object.at c.self.inside.marks c.self.inside.records c.self.inside.words c.args.object.part c.release-words.new.records c.release-words.new.words c.release-words.result.0 c.release-words.result.1 c.self.invariant.0 c.in-Some.ensures.found.0 last out in
    subst (λ (b : PoolView). IsSuperblock b.region b.layout c.of.result 16 c.release-words.result.0 (Some c.release-words.result.1)) c.self.view_is (record {
      page = c.in-Some.page;
      at_is = c.of.ensures;
      inside = c.self.invariant.0.shape.inside c.in-Some.page c.in-Some.ensures.found.0;
      pages_is = refl;
      here = ap (λ (o : Owned). o.region) out.run_is ∙ c.self.invariant.0.words_here;
      records_are = (ap (λ (o : Owned). o.region) out.control_is ∙ c.self.invariant.0.records_here, j.1);
    })

pub invariant_of-self-2 : goal.invariant_of-self-2
invariant_of-self-2 c =
    let put : IsPutBack c.self.inside.layout c.in-Some.page c.self.inside.records c.self.inside.words c.put_object.new.records c.put_object.new.words c.word-place.result = subst (λ (o : Owned). IsPutBack c.self.inside.layout c.in-Some.page o c.self.inside.words c.put_object.new.records c.put_object.new.words c.word-place.result) c.room-free.ensures.same c.put_object.ensures in
    subst (λ (o : Owned). IsPool c.self.inside.layout c.self.inside.active o c.put_object.new.records c.put_object.new.words × (c.self.inside.left + 1 ≡ free_objects c.self.inside.layout o.words c.put_object.new.records.words) × IsSpare c.self.inside.layout c.spare_with-self-inside.result o.words c.put_object.new.records.words) (sym c.in-Some.ensures.same) (
      after_free c.self.inside.layout c.self.inside.active c.in-Some.page c.word-place.result c.self.inside.marks c.self.inside.records c.self.inside.words c.put_object.new.records c.put_object.new.words c.self.invariant.0 c.in-Some.ensures.found.0 put (elim c.else-free-self.branch [
        | else-free-self-via-then-free-self+else-not-is_page w ↦ inl (w.if-not-is_page.ensures.yes refl)
        | else-free-self-via-else-free-self w ↦ inr (λ x e s. w.if-free-self.false (ap (λ (z : ℕ). z + 1) (some_same c.room-free.result x (sym c.room-free.ensures.room ∙ e)) ∙ s))
      ]),
      ap (λ (z : ℕ). z + 1) c.self.invariant.1 ∙ sym (count_free c.self.inside.layout c.self.inside.active c.in-Some.page c.word-place.result c.self.inside.marks c.self.inside.records c.self.inside.words c.put_object.new.records c.put_object.new.words c.self.invariant.0 c.in-Some.ensures.found.0 put),
      spare_freed c.self.inside.layout c.self.inside.active c.self.inside.spare c.spare_with-self-inside.result c.in-Some.page c.word-place.result c.self.inside.marks c.self.inside.records c.self.inside.words c.put_object.new.records c.put_object.new.words
          c.self.invariant.0 c.in-Some.ensures.found.0 c.self.invariant.2 c.spare_with-self-inside.ensures put,
    )

pub returns-clause-kept : goal.returns-clause-kept
returns-clause-kept c =
    let put : IsPutBack c.self.inside.layout c.in-Some.page c.self.inside.records c.self.inside.words c.put_object.new.records c.put_object.new.words c.word-place.result = subst (λ (o : Owned). IsPutBack c.self.inside.layout c.in-Some.page o c.self.inside.words c.put_object.new.records c.put_object.new.words c.word-place.result) c.room-free.ensures.same c.put_object.ensures in
    subst (λ (b : PoolView). IsFreed b.layout b.state c.args.object.at c.args.object.bytes (state_of c.self.inside.layout c.self.inside.active c.holder.new.marks.words c.put_object.new.words.words)) c.self.view_is
    (subst (λ (o : Owned). IsFreed c.self.inside.layout (state_of c.self.inside.layout c.self.inside.active c.self.inside.marks.words c.self.inside.words.words) c.args.object.at c.args.object.bytes (state_of c.self.inside.layout c.self.inside.active o.words c.put_object.new.words.words)) (sym c.in-Some.ensures.same)
    (subst (λ (z : ℕ). IsFreed c.self.inside.layout (state_of c.self.inside.layout c.self.inside.active c.self.inside.marks.words c.self.inside.words.words) z c.args.object.bytes (state_of c.self.inside.layout c.self.inside.active c.self.inside.marks.words c.put_object.new.words.words)) c.word-place.ensures
    (free_legal c.self.inside.layout c.self.inside.active c.in-Some.page c.word-place.result c.args.object.bytes c.self.inside.marks c.self.inside.records c.self.inside.words c.put_object.new.records c.put_object.new.words c.self.invariant.0 c.in-Some.ensures.found.0 put (elim c.else-free-self.branch [
      | else-free-self-via-then-free-self+else-not-is_page w ↦ inl (w.if-not-is_page.ensures.yes refl)
      | else-free-self-via-else-free-self w ↦ inr (λ x e s. w.if-free-self.false (ap (λ (z : ℕ). z + 1) (some_same c.room-free.result x (sym c.room-free.ensures.room ∙ e)) ∙ s))
    ]) c.if-object-self.false)))
