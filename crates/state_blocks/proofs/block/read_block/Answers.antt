use Rattle.std.proofs.Common.{◌≡◌, ◌<◌, ◌≤◌, ◌+◌, ◌==◌, ◌∙◌, ℕ, Bool, false, List, [], ◌∷◌, arith, length, sym, take}
use Rattle.std.proofs.lemmas.Bool.{eqb-true, true≢false}
use Rattle.state_blocks.proofs.Tuples.{group_more, group_none, no_group, stops, whole_block, whole_written}
use Rattle.state_blocks.proofs.block.read_block.Goals as goal

not_empty : (bs : List ℕ) (b : Bool) → b ≡ (length bs == 0) → b ≡ false → 0 < length bs
not_empty [] b e f = absurd (true≢false (sym e ∙ f))
not_empty (x ∷ bs) b e f = omega arith

pub loop-at-init : goal.loop-at-init
loop-at-init c = no_group c.args.columns c.args.kinds.now c.args.bytes.now

pub returns-then-is_empty-clause-read : goal.returns-then-is_empty-clause-read
returns-then-is_empty-clause-read c =
    let none = eqb-true (length c.loop-at.rest.now) 0 (sym c.is_empty.ensures ∙ c.if-is_empty.true) in
    let w = whole_block c.args.columns c.args.kinds.now c.args.bytes.now c.loop-at.rest.now c.loop-at.at none c.loop-at.invariant in
    (w.block, w.is, w.each, w.many)

pub returns-then-is_empty-clause-written : goal.returns-then-is_empty-clause-written
returns-then-is_empty-clause-written c =
    let none = eqb-true (length c.loop-at.rest.now) 0 (sym c.is_empty.ensures ∙ c.if-is_empty.true) in
    whole_written c.args.columns c.args.kinds.now c.args.bytes.now c.loop-at.rest.now c.loop-at.at none c.loop-at.invariant

pub returns-in_default-clause-written : goal.returns-in_default-clause-written
returns-in_default-clause-written c =
    let some = not_empty c.loop-at.rest.now c.is_empty.result c.is_empty.ensures c.if-is_empty.false in
    group_none c.args.columns c.args.kinds.now c.args.bytes.now c.loop-at.rest.now c.loop-at.at some c.loop-at.invariant c.in_default.ensures.written

pub returns-in_default-clause-stops : goal.returns-in_default-clause-stops
returns-in_default-clause-stops c =
    let some = not_empty c.loop-at.rest.now c.is_empty.result c.is_empty.ensures c.if-is_empty.false in
    stops c.args.columns c.args.kinds.now c.args.bytes.now c.loop-at.rest.now c.loop-at.at some c.loop-at.invariant c.in_default.ensures.written

pub loop-at-preserved : goal.loop-at-preserved
loop-at-preserved c =
    let some = not_empty c.loop-at.rest.now c.is_empty.result c.is_empty.ensures c.if-is_empty.false in
    group_more c.args.columns c.args.kinds.now c.args.bytes.now c.loop-at.rest.now c.loop-at.at c.in-Some._key.now c.read_group.new.state.rows (take (length c.args.kinds.now) c.read_group.new.state.slots) c.in-Some.after.now some
    c.loop-at.invariant c.in-Some.ensures.read.0 c.in-Some.ensures.read.1 c.in-Some.ensures.written

pub returns-clause-read : goal.returns-clause-read
returns-clause-read c =
    let end : c.loop-at.at ≡ length c.args.bytes.now = omega arith in
    let room = c.loop-at.invariant.room in
    let none : length c.loop-at.rest.now ≡ 0 = omega (arith, room, end) in
    let w = whole_block c.args.columns c.args.kinds.now c.args.bytes.now c.loop-at.rest.now c.loop-at.at none c.loop-at.invariant in
    (w.block, w.is, w.each, w.many ∙ end)

pub returns-clause-written : goal.returns-clause-written
returns-clause-written c = λ block all e.
    let end : c.loop-at.at ≡ length c.args.bytes.now = omega arith in
    let room = c.loop-at.invariant.room in
    let none : length c.loop-at.rest.now ≡ 0 = omega (arith, room, end) in
    sym end ∙ whole_written c.args.columns c.args.kinds.now c.args.bytes.now c.loop-at.rest.now c.loop-at.at none c.loop-at.invariant block all e
