use Rattle.std.proofs.Common.{◌≡◌, ◌/◌, ◌∷◌, ◌++◌, ◌∙◌, [], ℕ, List, Some, ap, subst, sym}
use Rattle.plan_descriptor.proofs.Planned.{has_plan}
use Rattle.plan_descriptor.specs.Planned.{HasPlan}
use Rattle.region_words.specs.Parts.{Owned}
use Rattle.shm_toc.specs.Table.{Entry, Table, place_of, table_of}
use Rattle.word_map.specs.WordMap.{HasJust, WordMap}
use Rattle.uses_rows.proofs.descriptors.through_a_table.Goals as goal

pub plan_in-requires-clause-plan : goal.plan_in-requires-clause-plan
plan_in-requires-clause-plan c =
    let chunk = c.write_plan.new.chunk in
    let entry : Entry = record { key = 1; place = chunk.at } in
    let empty = ap (λ (t : Table). t.entries) c.in-Ok.ensures.taken ∙ ap (λ (t : Table). t.entries) c.create-toc.ensures.empty in
    let entries : (table_of c.keep.new.self.words).entries ≡ entry ∷ [] =
    ap (λ (t : Table). t.entries) (c.keep.ensures.same ∙ c.in-Ok-insert.ensures.entered) ∙ ap (λ (es : List Entry). es ++ entry ∷ []) empty in
    let found = ap (λ (w : WordMap). place_of (table_of w).entries 1) (sym c.keep.ensures.words) ∙ ap (λ (es : List Entry). place_of es 1) entries in
    let just : HasJust chunk.part.words chunk.at 32 = subst (λ (b : ℕ). HasJust chunk.part.words chunk.at (b / 8)) (c.write_plan.ensures.place.1 ∙ c.in-Ok.ensures.chunk.1) chunk.just in (
      c.args.plan.now,
      subst (λ (o : Owned). HasPlan o.words c.args.plan.now) (sym c.freeze-toc.ensures)
          (subst (λ (w : WordMap). HasPlan w c.args.plan.now) (sym c.keep.ensures.words)
          (has_plan _ chunk.part.words chunk.at just c.args.plan.now found c.write_plan.ensures.words c.write_plan.ensures.plan)),
    )

pub returns : goal.returns
returns c =
    let chunk = c.write_plan.new.chunk in
    let entry : Entry = record { key = 1; place = chunk.at } in
    let empty = ap (λ (t : Table). t.entries) c.in-Ok.ensures.taken ∙ ap (λ (t : Table). t.entries) c.create-toc.ensures.empty in
    let entries : (table_of c.keep.new.self.words).entries ≡ entry ∷ [] =
    ap (λ (t : Table). t.entries) (c.keep.ensures.same ∙ c.in-Ok-insert.ensures.entered) ∙ ap (λ (es : List Entry). es ++ entry ∷ []) empty in
    let found = ap (λ (w : WordMap). place_of (table_of w).entries 1) (sym c.keep.ensures.words) ∙ ap (λ (es : List Entry). place_of es 1) entries in
    let just : HasJust chunk.part.words chunk.at 32 = subst (λ (b : ℕ). HasJust chunk.part.words chunk.at (b / 8)) (c.write_plan.ensures.place.1 ∙ c.in-Ok.ensures.chunk.1) chunk.just in
    ap Some (c.plan_in.ensures.plan c.args.plan.now (subst (λ (o : Owned). HasPlan o.words c.args.plan.now) (sym c.freeze-toc.ensures)
    (subst (λ (w : WordMap). HasPlan w c.args.plan.now) (sym c.keep.ensures.words)
    (has_plan _ chunk.part.words chunk.at just c.args.plan.now found c.write_plan.ensures.words c.write_plan.ensures.plan))))
