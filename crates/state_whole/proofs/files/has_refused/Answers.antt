use Rattle.std.proofs.Common.{◌≡◌, ◌∙◌, ℕ, List, ap, arith, drop, length, sym}
use Rattle.std.proofs.Math.Seq.{drop-length}
use Rattle.state_head.specs.declared.cover.Stretch.{Stretch}
use Rattle.state_whole.specs.Sums.{has_refused}
use Rattle.state_whole.proofs.Refusals.{or_left, or_right, refused_at}
use Rattle.state_whole.proofs.files.has_refused.Goals as goal

pub returns-then-is_refused : goal.returns-then-is_refused
returns-then-is_refused c = sym (sym c.loop-at.invariant ∙ refused_at c.args.cover.now c.loop-at.at _ c.loop-at-test.true ∙ or_left _ _ (sym c.is_refused.ensures ∙ c.if-is_refused.true))

pub loop-at-preserved : goal.loop-at-preserved
loop-at-preserved c = sym (refused_at c.args.cover.now c.loop-at.at _ c.loop-at-test.true ∙ or_right _ _ (sym c.is_refused.ensures ∙ c.if-is_refused.false)) ∙ c.loop-at.invariant

pub returns : goal.returns
returns c =
    let cover = c.args.cover.now in
    let end : c.loop-at.at ≡ length cover = omega arith in
    sym (ap (λ (n : ℕ). has_refused (drop n cover)) end ∙ ap (λ (ss : List Stretch). has_refused ss) (drop-length cover)) ∙ c.loop-at.invariant
