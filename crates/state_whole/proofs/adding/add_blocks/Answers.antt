use Rattle.std.proofs.Common.{◌≡◌, ◌==◌, ◌<◌, ◌∙◌, ℕ, Bool, false, List, [], ◌∷◌, arith, length, sym}
use Rattle.std.proofs.lemmas.Bool.{eqb-true, true≢false}
use Rattle.std.proofs.lemmas.Result.{err_from_is_err_and}
use Rattle.state_whole.proofs.Runs.{all_added, none_added, not_added, not_split, one_added}
use Rattle.state_whole.proofs.adding.add_blocks.Goals as goal

not_empty : (bs : List ℕ) (b : Bool) → b ≡ (length bs == 0) → b ≡ false → 0 < length bs
not_empty [] b e f = absurd (true≢false (sym e ∙ f))
not_empty (x ∷ bs) b e f = omega arith

pub loop-init : goal.loop-init
loop-init c = none_added c.args.shape.now c.args.kept c.args.blocks.now c.args.map.now c.args.order.now c.args.count.now

pub overflow_add-number : goal.overflow_add-number
overflow_add-number c =
    let few = c.loop.invariant.few in
    omega (arith, few, c.requires.few, not_empty c.loop.rest.now c.is_empty.result c.is_empty.ensures c.if-is_empty.false)

pub add_block-requires-clause-few : goal.add_block-requires-clause-few
add_block-requires-clause-few c =
    let few = c.loop.invariant.few in
    let long = c.in-Some.ensures.long in
    omega (arith, few, long, c.requires.few)

pub returns-then-is_empty : goal.returns-then-is_empty
returns-then-is_empty c =
    let none = eqb-true (length c.loop.rest.now) 0 (sym c.is_empty.ensures ∙ c.if-is_empty.true) in
    λ start range groups bs. all_added c.args.shape.now c.args.kept c.args.blocks.now c.loop.rest.now c.args.map.now c.loop.map c.args.order.now c.loop.order c.args.count.now c.loop.count c.loop.counter c.loop.invariant none start range groups bs

pub returns-in_default : goal.returns-in_default
returns-in_default c =
    let some = not_empty c.loop.rest.now c.is_empty.result c.is_empty.ensures c.if-is_empty.false in
    λ start range groups bs has all e. absurd (not_split c.args.shape.now c.args.kept c.args.blocks.now c.loop.rest.now c.args.map.now c.loop.map c.args.order.now c.loop.order c.args.count.now c.loop.count c.loop.counter c.loop.invariant some c.in_default.ensures.written start range groups bs has all e)

pub returns-in_err-add_block : goal.returns-in_err-add_block
returns-in_err-add_block c =
    let some = not_empty c.loop.rest.now c.is_empty.result c.is_empty.ensures c.if-is_empty.false in
    let why = err_from_is_err_and c.from_residual.result c.from_residual.ensures.1 in
    rw (why.1, why.2) (λ start range groups bs.
    not_added c.args.shape.now c.args.kept c.args.blocks.now c.loop.rest.now c.in-Some.part.now c.in-Some.after.now c.args.map.now c.loop.map c.args.order.now c.loop.order c.args.count.now c.loop.count c.loop.counter c.in_err-add_block.field-0.0 c.loop.invariant some c.in-Some.ensures.written c.in_err-add_block.ensures.added start range groups bs)

pub loop-preserved : goal.loop-preserved
loop-preserved c =
    let some = not_empty c.loop.rest.now c.is_empty.result c.is_empty.ensures c.if-is_empty.false in
    let did = c.in_ok-add_block.ensures in
    one_added c.args.shape.now c.args.kept c.args.blocks.now c.loop.rest.now c.in-Some.part.now c.in-Some.after.now c.args.map.now c.loop.map _ c.args.order.now c.loop.order _ c.args.count.now c.loop.count _ c.loop.counter c.loop.invariant some c.in-Some.ensures.long did.few c.in-Some.ensures.written
    did.added

pub returns : goal.returns
returns c =
    let end : c.loop.counter ≡ length c.args.blocks.now = omega arith in
    let room = c.loop.invariant.room in
    let none : length c.loop.rest.now ≡ 0 = omega (arith, room, end) in
    λ start range groups bs. all_added c.args.shape.now c.args.kept c.args.blocks.now c.loop.rest.now c.args.map.now c.loop.map c.args.order.now c.loop.order c.args.count.now c.loop.count c.loop.counter c.loop.invariant none start range groups bs
