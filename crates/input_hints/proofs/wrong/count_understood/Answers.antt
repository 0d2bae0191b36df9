use Rattle.std.proofs.Common.{◌≡◌, ◌<◌, ◌∙◌, ap₂, arith, sym}
use Rattle.answer_text.specs.Words.{texts}
use Rattle.input_hints.specs.Wrong.{given_places, is_begun}
use Rattle.input_hints.proofs.Begun.{all_begun, fewer_begun}
use Rattle.input_hints.proofs.Words.{texts_taken}
use Rattle.input_hints.proofs.wrong.count_understood.Goals as goal

pub returns-then-branch-clause-count : goal.returns-then-branch-clause-count
returns-then-branch-clause-count c =
    let count = c.counts.count in
    let words = c.args.words.now in
    let some : 0 < count = omega (arith, c.counts-test.true) in
    let begun = ap₂ is_begun (sym c.given_places-places.ensures) (texts_taken words count) ∙ sym c.in_ok-is_begun.ensures ∙ c.if-branch.true in
    sym (all_begun (given_places (texts words)) (texts words) count some begun) ∙ c.counts.invariant.same

pub counts-preserved : goal.counts-preserved
counts-preserved c =
    let count = c.counts.count in
    let words = c.args.words.now in
    let some : 0 < count = omega (arith, c.counts-test.true) in
    let none = ap₂ is_begun (sym c.given_places-places.ensures) (texts_taken words count) ∙ sym c.in_ok-is_begun.ensures ∙ c.if-branch.false in
    record {
      same = fewer_begun (given_places (texts words)) (texts words) count some none ∙ c.counts.invariant.same;
      within = omega (arith, c.counts.invariant.within);
    }

pub returns-clause-count : goal.returns-clause-count
returns-clause-count c =
    let zero : c.counts.count ≡ 0 = omega (arith, c.counts-test.false) in
    rw zero at c.counts.invariant.same
