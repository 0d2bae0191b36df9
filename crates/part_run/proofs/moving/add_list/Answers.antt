use Rattle.std.proofs.Common.{◌<◌, ◌∙◌, ap, arith, length, slice_index_or}
use Rattle.std.proofs.lemmas.Bool.{eq-eqb, ne_eqb}
use Rattle.par_model.specs.declared.state.AggState.{AggState}
use Rattle.row_lists.specs.Parts.{part_of}
use Rattle.part_run.proofs.Parting.{added_next, no_group, passed_next}
use Rattle.part_run.proofs.Lending.{part_at}
use Rattle.part_run.proofs.moving.add_list.Goals as goal
use Rattle.part_run.proofs.moving.add_list.Goals.{then-parts-at+in_ok-add_group, else-parts-at}

-- the place, and the range that was found there
lt : (c : goal.Joined-parts-at) → c.loop-at.at < length c.args.groups.now
lt c = omega (arith, c.loop-at-test.true, c.len-at-end.ensures)

pub loop-at-preserved : goal.loop-at-preserved
loop-at-preserved c =
    let groups = c.args.groups.now in
    let at = c.loop-at.at in
    let here = part_at groups at c.args.parts.now (lt c) c.requires.parts in
    record {
      added = elim c.if-parts-at.branch [
        | then-parts-at+in_ok-add_group w ↦
            added_next part_of c.args.part groups at no_group c.args.so_far.now c.loop-at.so_far c.if-parts-at.so_far (lt c) c.loop-at.invariant.added
            (eq-eqb (part_of (slice_index_or groups at no_group).key) c.args.part (omega (arith, here, w.if-parts-at.true))) (w.so_far-is ∙ w.in_ok-add_group.ensures.added no_group)
        | else-parts-at w ↦
            w.so_far-is ∙ passed_next part_of c.args.part groups at no_group c.args.so_far.now c.loop-at.so_far (lt c) c.loop-at.invariant.added
            (ne_eqb (part_of (slice_index_or groups at no_group).key) c.args.part (λ same. omega (arith, here, same, w.if-parts-at.false)))
      ];
      eight = elim c.if-parts-at.branch [
        | then-parts-at+in_ok-add_group w ↦ ap (λ (s : AggState). length s.slots) w.state-is ∙ w.in_ok-add_group.ensures.eight
        | else-parts-at w ↦ ap (λ (s : AggState). length s.slots) w.state-is ∙ c.loop-at.invariant.eight
      ];
    }
