use Rattle.std.proofs.Common.{ℕ, ◌+◌, ◌-◌, ◌*◌, ◌/◌, ◌<◌, sym, ap, subst, ◌∙◌, arith}
use Rattle.word_map.specs.WordMap.{HasJust}
use Rattle.span_pools.specs.Places.{base}
use Rattle.span_pools.specs.Legal.{IsAdd}
use Rattle.span_pools.specs.View.{state_of}
use Rattle.span_pools.specs.PoolView.{PoolView, IsSuperblock}
use Rattle.span_pools.proofs.Pools.{all_live, some_free, chunk_bytes}
use Rattle.span_pools.proofs.Covers.{objects_small}
use Rattle.span_pools.proofs.Adds.{coming, after_add, add_legal, part_just}
use Rattle.span_pools.proofs.FreeCounts.{count_active, count_add, count_few}
use Rattle.span_pools.proofs.Spares.{spare_added}
use Rattle.span_pools.proofs.pool.Pool.add.Goals as goal

pub overflow_add-self : goal.overflow_add-self
overflow_add-self c =
    let low : c.self.inside.left < 2147483648 = subst (λ (z : ℕ). z < 2147483648) (sym c.self.invariant.1) (count_few c.self.inside.layout c.self.inside.active c.self.inside.marks c.self.inside.records c.self.inside.words c.self.invariant.0) in
    let small = objects_small c.self.inside.layout c.self.invariant.0.layout in
    omega (arith, low, small)

pub invariant_of-self : goal.invariant_of-self
invariant_of-self c =
    let run = coming c.self.inside.marks.region c.self.inside.layout c.args.run.at c.word.result c.args.run.pages c.args.run.words c.args.run.control c.in-Some.control
    (subst (λ (b : PoolView). IsSuperblock b.region b.layout c.args.run.at c.args.run.pages c.args.run.words c.args.run.control) (sym c.self.view_is) c.requires.run) c.word.ensures c.in-Some.is c.args.run.just in
    let now = count_active c.self.inside.layout c.self.inside.active c.next_active-self-inside.result ((c.word.result - c.self.inside.layout.first) / 512) c.self.inside.left c.self.inside.marks c.self.inside.records c.self.inside.words c.self.invariant.0 c.self.invariant.1 c.next_active-self-inside.ensures.none c.next_active-self-inside.ensures.some in (
      after_add c.self.inside.layout c.self.inside.active c.next_active-self-inside.result ((c.word.result - c.self.inside.layout.first) / 512) c.self.inside.marks c.set_mark.new.marks c.self.inside.records c.self.inside.words c.in-Some.control c.args.run.words c.admit-part.new.records c.admit-part.new.words c.admit-part.result
          c.self.invariant.0 run.fits run.control_is run.run_is c.set_mark.ensures c.admit-part.ensures now,
      ap (λ (z : ℕ). z + (c.self.inside.layout.objects - 1)) c.self.invariant.1
          ∙ sym (count_add c.self.inside.layout c.self.inside.active ((c.word.result - c.self.inside.layout.first) / 512) c.self.inside.marks c.set_mark.new.marks c.self.inside.records c.self.inside.words c.in-Some.control c.args.run.words c.admit-part.new.records c.admit-part.new.words c.admit-part.result
          c.self.invariant.0 run.fits run.control_is c.set_mark.ensures c.admit-part.ensures),
      spare_added c.self.inside.layout c.self.inside.active c.self.inside.spare ((c.word.result - c.self.inside.layout.first) / 512) c.self.inside.marks c.set_mark.new.marks c.self.inside.records c.self.inside.words c.in-Some.control c.args.run.words c.admit-part.new.records c.admit-part.new.words c.admit-part.result
          c.self.invariant.0 c.self.invariant.2 run.control_is c.set_mark.ensures c.admit-part.ensures,
    )

pub invariant_of-result : goal.invariant_of-result
invariant_of-result c =
    let run = coming c.self.inside.marks.region c.self.inside.layout c.args.run.at c.word.result c.args.run.pages c.args.run.words c.args.run.control c.in-Some.control
    (subst (λ (b : PoolView). IsSuperblock b.region b.layout c.args.run.at c.args.run.pages c.args.run.words c.args.run.control) (sym c.self.view_is) c.requires.run) c.word.ensures c.in-Some.is c.args.run.just in
    let b = chunk_bytes c.self.inside.layout.size in
    record {
      valid = c.args.run.valid;
      whole = b.0;
      just = subst (λ (z : ℕ). HasJust c.admit-part.result.words z (8 * c.self.inside.layout.size / 8)) (sym run.at_is) (subst (λ (z : ℕ). HasJust c.admit-part.result.words (base c.self.inside.layout ((c.word.result - c.self.inside.layout.first) / 512)) z) (sym b.1)
          (part_just c.self.inside.layout ((c.word.result - c.self.inside.layout.first) / 512) c.self.inside.records c.self.inside.words c.in-Some.control c.args.run.words c.admit-part.new.records c.admit-part.new.words c.admit-part.result c.self.invariant.0.layout run.run_is c.admit-part.ensures));
    }

pub returns-clause-added : goal.returns-clause-added
returns-clause-added c =
    let run = coming c.self.inside.marks.region c.self.inside.layout c.args.run.at c.word.result c.args.run.pages c.args.run.words c.args.run.control c.in-Some.control
    (subst (λ (b : PoolView). IsSuperblock b.region b.layout c.args.run.at c.args.run.pages c.args.run.words c.args.run.control) (sym c.self.view_is) c.requires.run) c.word.ensures c.in-Some.is c.args.run.just in
    let now = count_active c.self.inside.layout c.self.inside.active c.next_active-self-inside.result ((c.word.result - c.self.inside.layout.first) / 512) c.self.inside.left c.self.inside.marks c.self.inside.records c.self.inside.words c.self.invariant.0 c.self.invariant.1 c.next_active-self-inside.ensures.none c.next_active-self-inside.ensures.some in
    subst (λ (b : PoolView). IsAdd b.layout b.state c.args.run.at c.args.run.at (state_of c.self.inside.layout c.next_active-self-inside.result c.set_mark.new.marks.words c.admit-part.new.words.words)) c.self.view_is
    (add_legal c.self.inside.layout c.self.inside.active c.next_active-self-inside.result ((c.word.result - c.self.inside.layout.first) / 512) c.args.run.at c.args.run.at c.self.inside.marks c.set_mark.new.marks c.self.inside.records c.self.inside.words c.in-Some.control c.args.run.words c.admit-part.new.records c.admit-part.new.words c.admit-part.result
    c.self.invariant.0 run.fits run.control_is run.run_is c.set_mark.ensures c.admit-part.ensures now run.at_is run.at_is
    (λ h. all_live c.self.inside.layout c.self.inside.active c.self.inside.marks c.self.inside.records c.self.inside.words c.self.invariant.0 h) (λ r m h. some_free c.self.inside.layout c.self.inside.active r c.self.inside.marks c.self.inside.records c.self.inside.words c.self.invariant.0 m h))
