use Rattle.std.proofs.Common.{◌≡◌, ◌==◌, ◌<◌, ◌∙◌, ℕ, Bool, false, List, [], ◌∷◌, arith, length, sym}
use Rattle.std.proofs.lemmas.Bool.{eqb-true, true≢false}
use Rattle.std.proofs.lemmas.Result.{err_from_is_err_and}
use Rattle.state_keep.proofs.Keeps.{all_kept, none_kept, not_kept, one_kept}
use Rattle.state_keep.proofs.keep.keep_block.Goals as goal

not_empty : (bs : List ℕ) (b : Bool) → b ≡ (length bs == 0) → b ≡ false → 0 < length bs
not_empty [] b e f = absurd (true≢false (sym e ∙ f))
not_empty (x ∷ bs) b e f = omega arith

pub loop-init : goal.loop-init
loop-init c = none_kept c.args.shape.now c.args.kept c.args.part.now c.args.map.now

pub returns-then-is_empty : goal.returns-then-is_empty
returns-then-is_empty c =
    let none = eqb-true (length c.loop.rest.now) 0 (sym c.is_empty.ensures ∙ c.if-is_empty.true) in
    all_kept c.args.shape.now c.args.kept c.args.part.now c.loop.rest.now c.args.map.now c.loop.map c.loop.counter c.loop.invariant none

pub returns-in_err-rest : goal.returns-in_err-rest
returns-in_err-rest c =
    let some = not_empty c.loop.rest.now c.is_empty.result c.is_empty.ensures c.if-is_empty.false in
    let why = err_from_is_err_and c.from_residual.result c.from_residual.ensures.1 in
    rw (why.1, why.2) (not_kept c.args.shape.now c.args.kept c.args.part.now c.loop.rest.now c.args.map.now c.loop.map c.loop.counter c.in_err-rest.field-0.0 c.loop.invariant some c.in_err-rest.ensures.kept)

pub loop-preserved : goal.loop-preserved
loop-preserved c =
    let some = not_empty c.loop.rest.now c.is_empty.result c.is_empty.ensures c.if-is_empty.false in
    let did = c.in_ok-rest.ensures in
    one_kept c.args.shape.now c.args.kept c.args.part.now c.loop.rest.now _ c.args.map.now c.loop.map _ c.loop.counter c.loop.invariant some did.shorter did.kept

pub returns : goal.returns
returns c =
    let end : c.loop.counter ≡ length c.args.part.now = omega arith in
    let room = c.loop.invariant.room in
    let none : length c.loop.rest.now ≡ 0 = omega (arith, room, end) in
    all_kept c.args.shape.now c.args.kept c.args.part.now c.loop.rest.now c.args.map.now c.loop.map c.loop.counter c.loop.invariant none
