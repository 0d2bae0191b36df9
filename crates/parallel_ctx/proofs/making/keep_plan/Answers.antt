use Rattle.std.proofs.Common.{◌≡◌, ◌/◌, ◌∙◌, ap, subst, sym, Some, ℕ}
use Rattle.region_words.specs.Parts.{Owned}
use Rattle.shm_toc.specs.Table.{Table, place_of, table_of}
use Rattle.word_map.specs.WordMap.{HasJust, WordMap, union}
use Rattle.plan_descriptor.specs.Planned.{HasPlan}
use Rattle.plan_descriptor.proofs.Planned.{has_plan}
use Rattle.parallel_ctx.proofs.making.keep_plan.Goals as goal

pub returns-clause-plan : goal.returns-clause-plan
returns-clause-plan c =
    let chunk = c.write_plan.new.chunk in
    let m = c.args.toc.words in
    let n = chunk.part.words in
    let place = c.write_plan.ensures.place in
    let just : HasJust n chunk.at 32 = subst (λ (b : ℕ). HasJust n chunk.at (b / 8)) (place.1 ∙ c.requires.room) chunk.just in
    let found : place_of (table_of (union m n)).entries 1 ≡ Some chunk.at =
    ap (λ (w : WordMap). place_of (table_of w).entries 1) (sym c.keep.ensures.words) ∙ ap (λ (t : Table). place_of t.entries 1) c.keep.ensures.same ∙ c.requires.entry ∙ ap Some (sym place.0) in
    subst (λ (o : Owned). HasPlan o.words c.args.plan.now) (sym c.freeze.ensures)
    (subst (λ (w : WordMap). HasPlan w c.args.plan.now) (sym c.keep.ensures.words)
    (has_plan m n chunk.at just c.args.plan.now found c.write_plan.ensures.words c.write_plan.ensures.plan))
