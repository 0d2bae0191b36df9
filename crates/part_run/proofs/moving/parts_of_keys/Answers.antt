use Rattle.std.proofs.Common.{◌++◌, ◌∷◌, ◌∙◌, [], ℕ, ap, arith}
use Rattle.part_run.proofs.Lending.{part_next}
use Rattle.part_run.proofs.moving.parts_of_keys.Goals as goal

pub loop-at-preserved : goal.loop-at-preserved
loop-at-preserved c =
    let found = c.loop-at.parts.items in
    part_next c.args.groups.now c.loop-at.at c.key.result.now found c.push.new.self.items (omega (arith, c.loop-at-test.true, c.len-at-end.ensures)) c.key.ensures.key c.loop-at.invariant
    (c.in_ok-push.ensures.items ∙ ap (λ (n : ℕ). found ++ n ∷ []) c.part_of.ensures)
