use Rattle.std.proofs.Common.{◌≡◌, ◌+◌, ◌∙◌, true, false, suc, ap, arith, length, not, sym}
use Rattle.std.proofs.lemmas.List.FromFn.{get_or-range_with_len, length-range_with_len}
use Rattle.std.specs.List.{range_with_len}
use Rattle.plan_descriptor.proofs.Places.{place-here, place-more}
use Rattle.plan_descriptor.specs.Descriptor.{is_allowed}
use Rattle.plan_descriptor.proofs.reading.first_bad.Goals as goal

pub returns-then-not-is_allowed : goal.returns-then-not-is_allowed
returns-then-not-is_allowed c =
    let words = c.args.words.now in
    let size = length-range_with_len 0 (length words) in
    let same : 0 + c.words.place ≡ c.words.place = omega arith in
    let place = rw same at (get_or-range_with_len 0 (length words) c.words.place 0 (omega arith)) in
    let bad : not (is_allowed words c.words.place) ≡ true = ap not (sym c.is_allowed.ensures ∙ c.if-not-is_allowed.true) in
    sym (rw same at (place-here (λ k. not (is_allowed words k)) 0 (range_with_len 0 (length words)) c.words.place 0 (omega (arith, size)) c.words.invariant (rw place bad)))

pub words-preserved : goal.words-preserved
words-preserved c =
    let words = c.args.words.now in
    let size = length-range_with_len 0 (length words) in
    let same : 0 + c.words.place ≡ c.words.place = omega arith in
    let next : c.words.place + 1 ≡ suc c.words.place = omega arith in
    let place = rw same at (get_or-range_with_len 0 (length words) c.words.place 0 (omega arith)) in
    let good : not (is_allowed words c.words.place) ≡ false = ap not (sym c.is_allowed.ensures ∙ c.if-not-is_allowed.false) in
    rw next (place-more (λ k. not (is_allowed words k)) 0 (range_with_len 0 (length words)) c.words.place 0 (omega (arith, size)) c.words.invariant (rw place good))
