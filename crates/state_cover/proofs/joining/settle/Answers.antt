use Rattle.std.proofs.Common.{◌≡◌, ◌==◌, ◌<◌, ◌∙◌, Bool, false, List, [], ◌∷◌, arith, length, sym}
use Rattle.std.proofs.lemmas.Bool.{true≢false}
use Rattle.std.proofs.lemmas.List.{get_or_default}
use Rattle.std.proofs.lemmas.Result.{err_from_is_err_and}
use Rattle.state_cover.proofs.Settled.{all_had, all_join, settled_all, settled_before, settled_last, settled_more, settled_not, settled_start}
use Rattle.state_cover.proofs.joining.settle.Goals as goal
use Rattle.state_head.specs.declared.cover.Stretch.{Stretch}

not_empty : (ss : List Stretch) (b : Bool) → b ≡ (length ss == 0) → b ≡ false → 0 < length ss
not_empty [] b e f = absurd (true≢false (sym e ∙ f))
not_empty (s ∷ ss) b e f = omega arith

pub loop-at-init : goal.loop-at-init
loop-at-init c =
    let some = not_empty c.args.stretches.now c.is_empty.result c.is_empty.ensures c.if-is_empty.false in
    settled_start c.args.sources c.args.stretches.now c.new-cover.result.items _ c.requires.each some c.new-cover.ensures.items

pub put-requires-clause-order : goal.put-requires-clause-order
put-requires-clause-order c =
    settled_before c.args.sources c.args.stretches.now c.loop-at.cover.items c.loop-at.last c.loop-at.at _ c.loop-at.invariant c.requires.sorted (omega arith) c.loop-at-test.true (get_or_default c.args.stretches.now c.loop-at.at _ _ c.loop-at-test.true)

pub put-requires-clause-last : goal.put-requires-clause-last
put-requires-clause-last c = (settled_last c.args.sources c.args.stretches.now c.loop-at.cover.items c.loop-at.last c.loop-at.at c.loop-at.invariant).are_rows

pub put-requires-clause-within : goal.put-requires-clause-within
put-requires-clause-within c = (settled_last c.args.sources c.args.stretches.now c.loop-at.cover.items c.loop-at.last c.loop-at.at c.loop-at.invariant).is_place.within

pub returns-in_err-last-clause-refused : goal.returns-in_err-last-clause-refused
returns-in_err-last-clause-refused c =
    let why = err_from_is_err_and c.from_residual.result c.from_residual.ensures.1 in
    rw (why.1, why.2) (
    settled_not c.args.sources c.args.stretches.now c.loop-at.cover.items c.loop-at.last c.loop-at.at _ c.loop-at.invariant c.loop-at-test.true (get_or_default c.args.stretches.now c.loop-at.at _ _ c.loop-at-test.true)
    c.in_err-last.field-0.0 c.in_err-last.ensures.refused)

pub loop-at-preserved : goal.loop-at-preserved
loop-at-preserved c =
    settled_more c.args.sources c.args.stretches.now c.loop-at.cover.items c.loop-at.last c.loop-at.at _ c.put.new.cover.items c.in_ok-last.last c.loop-at.invariant c.requires.each c.loop-at-test.true
    (λ d. get_or_default c.args.stretches.now c.loop-at.at _ d c.loop-at-test.true) c.in_ok-last.ensures.put

pub returns-clause-joins : goal.returns-clause-joins
returns-clause-joins c =
    let some = not_empty c.args.stretches.now c.is_empty.result c.is_empty.ensures c.if-is_empty.false in
    let end : c.loop-at.at ≡ length c.args.stretches.now = omega arith in
    let all = settled_all c.args.sources c.args.stretches.now c.loop-at.cover.items c.loop-at.last c.loop-at.at end c.loop-at.invariant in
    all_join c.args.sources c.args.stretches.now c.loop-at.cover.items c.add.new.cover.items c.loop-at.last all c.in_ok-add.ensures.put

pub returns-clause-bytes : goal.returns-clause-bytes
returns-clause-bytes c = λ source at.
    let some = not_empty c.args.stretches.now c.is_empty.result c.is_empty.ensures c.if-is_empty.false in
    let end : c.loop-at.at ≡ length c.args.stretches.now = omega arith in
    let all = settled_all c.args.sources c.args.stretches.now c.loop-at.cover.items c.loop-at.last c.loop-at.at end c.loop-at.invariant in
    all_had c.args.sources c.args.stretches.now c.loop-at.cover.items c.add.new.cover.items c.loop-at.last source at all c.in_ok-add.ensures.put
