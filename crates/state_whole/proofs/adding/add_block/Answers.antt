use Rattle.std.proofs.Common.{◌≡◌, ◌==◌, ◌<◌, ◌∙◌, ℕ, Bool, false, List, [], ◌∷◌, arith, length, sym}
use Rattle.std.proofs.lemmas.Bool.{eqb-true, true≢false}
use Rattle.std.proofs.lemmas.Result.{err_from_is_err_and}
use Rattle.state_whole.proofs.Adds.{all_added, none_added, not_added, one_added}
use Rattle.state_whole.proofs.adding.add_block.Goals as goal

not_empty : (bs : List ℕ) (b : Bool) → b ≡ (length bs == 0) → b ≡ false → 0 < length bs
not_empty [] b e f = absurd (true≢false (sym e ∙ f))
not_empty (x ∷ bs) b e f = omega arith

pub loop-init : goal.loop-init
loop-init c = none_added c.args.shape.now c.args.kept c.args.part.now c.args.map.now c.args.order.now c.args.count.now

pub add_group-requires-clause-few : goal.add_group-requires-clause-few
add_group-requires-clause-few c =
    let few = c.loop.invariant.few in
    omega (arith, few, c.requires.few, not_empty c.loop.rest.now c.is_empty.result c.is_empty.ensures c.if-is_empty.false)

pub returns-then-is_empty-clause-added : goal.returns-then-is_empty-clause-added
returns-then-is_empty-clause-added c =
    let none = eqb-true (length c.loop.rest.now) 0 (sym c.is_empty.ensures ∙ c.if-is_empty.true) in
    λ start range groups block. all_added c.args.shape.now c.args.kept c.args.part.now c.loop.rest.now c.args.map.now c.loop.map c.args.order.now c.loop.order c.args.count.now c.loop.count c.loop.counter c.loop.invariant none start range groups block

pub returns-in_err-rest-clause-added : goal.returns-in_err-rest-clause-added
returns-in_err-rest-clause-added c =
    let some = not_empty c.loop.rest.now c.is_empty.result c.is_empty.ensures c.if-is_empty.false in
    let why = err_from_is_err_and c.from_residual.result c.from_residual.ensures.1 in
    rw (why.1, why.2) (λ start range groups block.
    not_added c.args.shape.now c.args.kept c.args.part.now c.loop.rest.now c.args.map.now c.loop.map c.args.order.now c.loop.order c.args.count.now c.loop.count c.loop.counter c.in_err-rest.field-0.0 c.loop.invariant some c.in_err-rest.ensures.added start range groups block)

pub loop-preserved : goal.loop-preserved
loop-preserved c =
    let some = not_empty c.loop.rest.now c.is_empty.result c.is_empty.ensures c.if-is_empty.false in
    let did = c.in_ok-rest.ensures in
    one_added c.args.shape.now c.args.kept c.args.part.now c.loop.rest.now _ c.args.map.now c.loop.map _ c.args.order.now c.loop.order _ c.args.count.now c.loop.count _ c.loop.counter c.loop.invariant some did.shorter did.few did.added

pub returns-clause-added : goal.returns-clause-added
returns-clause-added c =
    let end : c.loop.counter ≡ length c.args.part.now = omega arith in
    let room = c.loop.invariant.room in
    let none : length c.loop.rest.now ≡ 0 = omega (arith, room, end) in
    λ start range groups block. all_added c.args.shape.now c.args.kept c.args.part.now c.loop.rest.now c.args.map.now c.loop.map c.args.order.now c.loop.order c.args.count.now c.loop.count c.loop.counter c.loop.invariant none start range groups block
