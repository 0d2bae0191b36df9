use Rattle.std.proofs.Common.{◌≡◌, ℕ, ◌+◌, ◌-◌, ◌*◌, ◌<◌, ◌≤◌, Some, is_some, false, refl, sym, ap, subst, ◌∙◌, arith}
use Rattle.word_map.specs.WordMap.{at, HasJust}
use Rattle.region_words.specs.Parts.{Owned}
use Rattle.span_pools.specs.Places.{record_at}
use Rattle.span_pools.specs.Legal.{IsTrim, IsUntrimmed}
use Rattle.span_pools.specs.View.{free_objects, mark_of, owns, state_of, IsRecordOf, IsSpare, IsTakenOut, IsPool}
use Rattle.span_pools.specs.PoolView.{PoolView, IsSuperblock}
use Rattle.span_pools.proofs.Shapes.{object_owned}
use Rattle.span_pools.proofs.Trims.{IsTrimmed, full_room, none_active, untrimmed, trim_count, trim_just, trim_legal, trim_pool, trim_spare, whole_out}
use Rattle.span_pools.proofs.pool.Pool.trim.Goals as goal

pub returns-in_default-clause-kept : goal.returns-in_default-clause-kept
returns-in_default-clause-kept c =
    subst (λ (b : PoolView). IsUntrimmed b.state b.state) c.self.view_is (none_active c.self.inside.layout c.self.inside.active c.self.inside.marks.words c.self.inside.words.words c.in_default.not-Some)

pub room-free-requires-clause-inside : goal.room-free-requires-clause-inside
room-free-requires-clause-inside c = let z = c.self.invariant.0.shape.inside c.in-Some.page (c.self.invariant.0.active_marked c.in-Some.page c.in-Some.is) in omega (arith, z)

pub room-free-requires-clause-has : goal.room-free-requires-clause-has
room-free-requires-clause-has c = ap is_some (c.self.invariant.0.records_say c.in-Some.page (c.self.invariant.0.active_marked c.in-Some.page c.in-Some.is)).room_is

pub returns-then-free-self-clause-kept : goal.returns-then-free-self-clause-kept
returns-then-free-self-clause-kept c =
    subst (λ (b : PoolView). IsUntrimmed b.state (state_of c.self.inside.layout c.self.inside.active c.self.inside.marks.words c.self.inside.words.words)) c.self.view_is
    (untrimmed c.self.inside.layout c.self.inside.active c.in-Some.page c.room-free.result c.self.inside.marks c.self.inside.records c.self.inside.words _ c.self.invariant.0 c.in-Some.is c.room-free.ensures.room c.if-free-self.true refl)

pub invariant_of-self : goal.invariant_of-self
invariant_of-self c =
    subst (λ (o : Owned). IsPool c.self.inside.layout c.self.inside.active c.self.inside.marks o c.self.inside.words × (c.self.inside.left ≡ free_objects c.self.inside.layout c.self.inside.marks.words o.words) × IsSpare c.self.inside.layout c.self.inside.spare c.self.inside.marks.words o.words) (sym c.room-free.ensures.same) c.self.invariant

pub take_object-place-requires-clause-inside : goal.take_object-place-requires-clause-inside
take_object-place-requires-clause-inside c = let z = c.self.invariant.0.shape.inside c.in-Some.page (c.self.invariant.0.active_marked c.in-Some.page c.in-Some.is) in omega (arith, z)

pub take_object-place-requires-clause-says : goal.take_object-place-requires-clause-says
take_object-place-requires-clause-says c =
    subst (λ (o : Owned). IsRecordOf c.self.inside.layout o.words c.self.inside.words.words c.in-Some.page) (sym c.room-free.ensures.same) (c.self.invariant.0.records_say c.in-Some.page (c.self.invariant.0.active_marked c.in-Some.page c.in-Some.is))

pub take_object-place-requires-clause-room : goal.take_object-place-requires-clause-room
take_object-place-requires-clause-room c =
    let some = c.self.invariant.0.layout.some in
    let all = c.if-free-self.false in
    (c.room-free.result, ap (λ (o : Owned). at o.words (record_at c.self.inside.layout c.in-Some.page)) c.room-free.ensures.same ∙ c.room-free.ensures.room, omega (arith, some, all))

pub take_object-place-requires-clause-whole : goal.take_object-place-requires-clause-whole
take_object-place-requires-clause-whole c = λ i k low free inside.
    object_owned c.self.inside.layout (mark_of c.self.inside.layout c.self.inside.marks.words) (owns c.self.inside.words.words) _ i k c.self.invariant.0.layout c.self.invariant.0.shape (c.self.invariant.0.active_marked c.in-Some.page c.in-Some.is) low free inside

pub clear_mark-requires-clause-inside : goal.clear_mark-requires-clause-inside
clear_mark-requires-clause-inside c = let z = c.self.invariant.0.shape.inside c.in-Some.page (c.self.invariant.0.active_marked c.in-Some.page c.in-Some.is) in omega (arith, z)

pub release-words-requires-clause-inside : goal.release-words-requires-clause-inside
release-words-requires-clause-inside c = c.self.invariant.0.shape.inside c.in-Some.page (c.self.invariant.0.active_marked c.in-Some.page c.in-Some.is)

pub release-words-requires-clause-words : goal.release-words-requires-clause-words
release-words-requires-clause-words c = λ apart k inside.
    let took : IsTakenOut c.self.inside.layout c.in-Some.page c.self.inside.records c.self.inside.words c.take_object-place.new.records c.take_object-place.new.words c.take_object-place.result.1 c.take_object-place.result.0 = subst (λ (o : Owned). IsTakenOut c.self.inside.layout c.in-Some.page o c.self.inside.words c.take_object-place.new.records c.take_object-place.new.words c.take_object-place.result.1 c.take_object-place.result.0) c.room-free.ensures.same c.take_object-place.ensures in
    let full = c.room-free.ensures.room ∙ ap Some (full_room c.self.inside.layout c.self.inside.active c.in-Some.page c.room-free.result c.self.inside.marks c.self.inside.records c.self.inside.words c.self.invariant.0 c.in-Some.is c.room-free.ensures.room c.if-free-self.false) in
    whole_out c.self.inside.layout c.self.inside.active c.in-Some.page c.take_object-place.result.0 k c.self.inside.marks c.self.inside.records c.self.inside.words c.take_object-place.new.records c.take_object-place.new.words c.take_object-place.result.1 c.self.invariant.0 c.in-Some.is full took apart inside

pub release-words-requires-clause-records : goal.release-words-requires-clause-records
release-words-requires-clause-records c = λ k inside.
    let took : IsTakenOut c.self.inside.layout c.in-Some.page c.self.inside.records c.self.inside.words c.take_object-place.new.records c.take_object-place.new.words c.take_object-place.result.1 c.take_object-place.result.0 = subst (λ (o : Owned). IsTakenOut c.self.inside.layout c.in-Some.page o c.self.inside.words c.take_object-place.new.records c.take_object-place.new.words c.take_object-place.result.1 c.take_object-place.result.0) c.room-free.ensures.same c.take_object-place.ensures in
    took.same.keys k ∙ c.self.invariant.0.records_are.all c.in-Some.page k (c.self.invariant.0.active_marked c.in-Some.page c.in-Some.is) inside

pub first_page-next-requires-clause-bits : goal.first_page-next-requires-clause-bits
first_page-next-requires-clause-bits c = c.clear_mark.ensures.bits

pub overflow_sub-self : goal.overflow_sub-self
overflow_sub-self c =
    let took : IsTakenOut c.self.inside.layout c.in-Some.page c.self.inside.records c.self.inside.words c.take_object-place.new.records c.take_object-place.new.words c.take_object-place.result.1 c.take_object-place.result.0 = subst (λ (o : Owned). IsTakenOut c.self.inside.layout c.in-Some.page o c.self.inside.words c.take_object-place.new.records c.take_object-place.new.words c.take_object-place.result.1 c.take_object-place.result.0) c.room-free.ensures.same c.take_object-place.ensures in
    let all = full_room c.self.inside.layout c.self.inside.active c.in-Some.page c.room-free.result c.self.inside.marks c.self.inside.records c.self.inside.words c.self.invariant.0 c.in-Some.is c.room-free.ensures.room c.if-free-self.false in
    let t : IsTrimmed c.self.inside.layout c.self.inside.active c.first_page-next.result c.in-Some.page c.take_object-place.result.0 c.self.inside.marks c.clear_mark.new.marks c.self.inside.records c.self.inside.words c.take_object-place.new.records c.take_object-place.new.words c.take_object-place.result.1 c.release-words.new.records c.release-words.new.words c.release-words.result.0 c.release-words.result.1 = record {
      pool = c.self.invariant.0;
      here = c.in-Some.is;
      full = c.room-free.ensures.room ∙ ap Some all;
      took = took;
      mark = c.clear_mark.ensures;
      out = c.release-words.ensures;
      next = c.first_page-next.ensures.found;
      none = c.first_page-next.ensures.none;
    } in
    let count = trim_count t in
    omega (arith, count, all, c.self.invariant.1)

pub invariant_of-result : goal.invariant_of-result
invariant_of-result c =
    let took : IsTakenOut c.self.inside.layout c.in-Some.page c.self.inside.records c.self.inside.words c.take_object-place.new.records c.take_object-place.new.words c.take_object-place.result.1 c.take_object-place.result.0 = subst (λ (o : Owned). IsTakenOut c.self.inside.layout c.in-Some.page o c.self.inside.words c.take_object-place.new.records c.take_object-place.new.words c.take_object-place.result.1 c.take_object-place.result.0) c.room-free.ensures.same c.take_object-place.ensures in
    let all = full_room c.self.inside.layout c.self.inside.active c.in-Some.page c.room-free.result c.self.inside.marks c.self.inside.records c.self.inside.words c.self.invariant.0 c.in-Some.is c.room-free.ensures.room c.if-free-self.false in
    let t : IsTrimmed c.self.inside.layout c.self.inside.active c.first_page-next.result c.in-Some.page c.take_object-place.result.0 c.self.inside.marks c.clear_mark.new.marks c.self.inside.records c.self.inside.words c.take_object-place.new.records c.take_object-place.new.words c.take_object-place.result.1 c.release-words.new.records c.release-words.new.words c.release-words.result.0 c.release-words.result.1 = record {
      pool = c.self.invariant.0;
      here = c.in-Some.is;
      full = c.room-free.ensures.room ∙ ap Some all;
      took = took;
      mark = c.clear_mark.ensures;
      out = c.release-words.ensures;
      next = c.first_page-next.ensures.found;
      none = c.first_page-next.ensures.none;
    } in
    record {
      valid = (let a = c.self.invariant.0.layout.valid in let b = c.self.invariant.0.layout.records in let d = c.self.invariant.0.layout.marks in omega (arith, c.of.ensures));
      just = subst (λ (z : ℕ). HasJust c.release-words.result.0.words z 8192) (sym c.of.ensures) (trim_just t).0;
    }

pub invariant_of-self-2 : goal.invariant_of-self-2
invariant_of-self-2 c =
    let took : IsTakenOut c.self.inside.layout c.in-Some.page c.self.inside.records c.self.inside.words c.take_object-place.new.records c.take_object-place.new.words c.take_object-place.result.1 c.take_object-place.result.0 = subst (λ (o : Owned). IsTakenOut c.self.inside.layout c.in-Some.page o c.self.inside.words c.take_object-place.new.records c.take_object-place.new.words c.take_object-place.result.1 c.take_object-place.result.0) c.room-free.ensures.same c.take_object-place.ensures in
    let all = full_room c.self.inside.layout c.self.inside.active c.in-Some.page c.room-free.result c.self.inside.marks c.self.inside.records c.self.inside.words c.self.invariant.0 c.in-Some.is c.room-free.ensures.room c.if-free-self.false in
    let t : IsTrimmed c.self.inside.layout c.self.inside.active c.first_page-next.result c.in-Some.page c.take_object-place.result.0 c.self.inside.marks c.clear_mark.new.marks c.self.inside.records c.self.inside.words c.take_object-place.new.records c.take_object-place.new.words c.take_object-place.result.1 c.release-words.new.records c.release-words.new.words c.release-words.result.0 c.release-words.result.1 = record {
      pool = c.self.invariant.0;
      here = c.in-Some.is;
      full = c.room-free.ensures.room ∙ ap Some all;
      took = took;
      mark = c.clear_mark.ensures;
      out = c.release-words.ensures;
      next = c.first_page-next.ensures.found;
      none = c.first_page-next.ensures.none;
    } in
    subst (λ (o : Owned). IsPool c.self.inside.layout c.first_page-next.result o c.release-words.new.records c.release-words.new.words × (c.self.inside.left - c.room-free.result ≡ free_objects c.self.inside.layout o.words c.release-words.new.records.words) × IsSpare c.self.inside.layout c.other_than-self-inside.result o.words c.release-words.new.records.words) (sym c.first_page-next.ensures.same) (
      trim_pool t,
      (let count = trim_count t in omega (arith, count, all, c.self.invariant.1)),
      trim_spare t c.self.inside.spare c.other_than-self-inside.result c.self.invariant.2 c.other_than-self-inside.ensures,
    )

pub returns-clause-whole : goal.returns-clause-whole
returns-clause-whole c =
    let took : IsTakenOut c.self.inside.layout c.in-Some.page c.self.inside.records c.self.inside.words c.take_object-place.new.records c.take_object-place.new.words c.take_object-place.result.1 c.take_object-place.result.0 = subst (λ (o : Owned). IsTakenOut c.self.inside.layout c.in-Some.page o c.self.inside.words c.take_object-place.new.records c.take_object-place.new.words c.take_object-place.result.1 c.take_object-place.result.0) c.room-free.ensures.same c.take_object-place.ensures in
    let all = full_room c.self.inside.layout c.self.inside.active c.in-Some.page c.room-free.result c.self.inside.marks c.self.inside.records c.self.inside.words c.self.invariant.0 c.in-Some.is c.room-free.ensures.room c.if-free-self.false in
    let t : IsTrimmed c.self.inside.layout c.self.inside.active c.first_page-next.result c.in-Some.page c.take_object-place.result.0 c.self.inside.marks c.clear_mark.new.marks c.self.inside.records c.self.inside.words c.take_object-place.new.records c.take_object-place.new.words c.take_object-place.result.1 c.release-words.new.records c.release-words.new.words c.release-words.result.0 c.release-words.result.1 = record {
      pool = c.self.invariant.0;
      here = c.in-Some.is;
      full = c.room-free.ensures.room ∙ ap Some all;
      took = took;
      mark = c.clear_mark.ensures;
      out = c.release-words.ensures;
      next = c.first_page-next.ensures.found;
      none = c.first_page-next.ensures.none;
    } in
    subst (λ (b : PoolView). IsTrim b.layout b.state c.of.result (state_of c.self.inside.layout c.first_page-next.result c.first_page-next.new.marks.words c.release-words.new.words.words)) c.self.view_is
    (subst (λ (o : Owned). IsTrim c.self.inside.layout (state_of c.self.inside.layout c.self.inside.active c.self.inside.marks.words c.self.inside.words.words) c.of.result (state_of c.self.inside.layout c.first_page-next.result o.words c.release-words.new.words.words)) (sym c.first_page-next.ensures.same)
    (trim_legal t c.of.result c.of.ensures))

pub returns-clause-run : goal.returns-clause-run
returns-clause-run c =
    let took : IsTakenOut c.self.inside.layout c.in-Some.page c.self.inside.records c.self.inside.words c.take_object-place.new.records c.take_object-place.new.words c.take_object-place.result.1 c.take_object-place.result.0 = subst (λ (o : Owned). IsTakenOut c.self.inside.layout c.in-Some.page o c.self.inside.words c.take_object-place.new.records c.take_object-place.new.words c.take_object-place.result.1 c.take_object-place.result.0) c.room-free.ensures.same c.take_object-place.ensures in
    let all = full_room c.self.inside.layout c.self.inside.active c.in-Some.page c.room-free.result c.self.inside.marks c.self.inside.records c.self.inside.words c.self.invariant.0 c.in-Some.is c.room-free.ensures.room c.if-free-self.false in
    let t : IsTrimmed c.self.inside.layout c.self.inside.active c.first_page-next.result c.in-Some.page c.take_object-place.result.0 c.self.inside.marks c.clear_mark.new.marks c.self.inside.records c.self.inside.words c.take_object-place.new.records c.take_object-place.new.words c.take_object-place.result.1 c.release-words.new.records c.release-words.new.words c.release-words.result.0 c.release-words.result.1 = record {
      pool = c.self.invariant.0;
      here = c.in-Some.is;
      full = c.room-free.ensures.room ∙ ap Some all;
      took = took;
      mark = c.clear_mark.ensures;
      out = c.release-words.ensures;
      next = c.first_page-next.ensures.found;
      none = c.first_page-next.ensures.none;
    } in
    subst (λ (b : PoolView). IsSuperblock b.region b.layout c.of.result 16 c.release-words.result.0 (Some c.release-words.result.1)) c.self.view_is (record {
      page = c.in-Some.page;
      at_is = c.of.ensures;
      inside = c.self.invariant.0.shape.inside c.in-Some.page (c.self.invariant.0.active_marked c.in-Some.page c.in-Some.is);
      pages_is = refl;
      here = ap (λ (o : Owned). o.region) c.release-words.ensures.run_is ∙ ap (λ (o : Owned). o.region) took.rest ∙ c.self.invariant.0.words_here;
      records_are = (ap (λ (o : Owned). o.region) c.release-words.ensures.control_is ∙ took.same.region ∙ c.self.invariant.0.records_here, (trim_just t).1);
    })
