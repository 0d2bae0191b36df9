use Rattle.std.proofs.Common.{◌≡◌, ◌==◌, ◌<◌, ◌∙◌, ℕ, Bool, false, List, [], ◌∷◌, arith, length, refl, sym}
use Rattle.std.proofs.lemmas.Bool.{eqb-true, true≢false}
use Rattle.state_head.specs.Head.{subject_of}
use Rattle.state_head.specs.Words.{keys_of}
use Rattle.state_load.proofs.Loads.{all_added, all_taken, none_loaded, not_added, one_loaded}
use Rattle.state_load.proofs.loading.add_files.Goals as goal

not_empty : (bs : List ℕ) (b : Bool) → b ≡ (length bs == 0) → b ≡ false → 0 < length bs
not_empty [] b e f = absurd (true≢false (sym e ∙ f))
not_empty (x ∷ bs) b e f = omega arith

pub loop-at-init : goal.loop-at-init
loop-at-init c = none_loaded c.args.shape.now (subject_of c.args.whole) (keys_of c.args.range) c.args.bytes.now c.args.sum.now

pub returns-then-is_empty-clause-added : goal.returns-then-is_empty-clause-added
returns-then-is_empty-clause-added c =
    let none = eqb-true (length c.loop-at.rest.now) 0 (sym c.is_empty.ensures ∙ c.if-is_empty.true) in
    all_added c.args.shape.now (subject_of c.args.whole) (keys_of c.args.range) c.args.bytes.now c.loop-at.rest.now c.args.sum.now c.loop-at.sum c.loop-at.at _ c.loop-at.invariant none refl

pub returns-then-is_empty-clause-written : goal.returns-then-is_empty-clause-written
returns-then-is_empty-clause-written c =
    let none = eqb-true (length c.loop-at.rest.now) 0 (sym c.is_empty.ensures ∙ c.if-is_empty.true) in
    all_taken c.args.shape.now (subject_of c.args.whole) (keys_of c.args.range) c.args.bytes.now c.loop-at.rest.now c.args.sum.now c.loop-at.sum c.loop-at.at _ c.loop-at.invariant none refl

pub returns-in-Err-clause-refused : goal.returns-in-Err-clause-refused
returns-in-Err-clause-refused c =
    not_added c.args.shape.now (subject_of c.args.whole) (keys_of c.args.range) c.args.bytes.now c.loop-at.rest.now c.args.sum.now c.loop-at.sum c.loop-at.at _ c.loop-at.invariant refl c.in-Err.ensures.refused

pub loop-at-preserved : goal.loop-at-preserved
loop-at-preserved c =
    let some = not_empty c.loop-at.rest.now c.is_empty.result c.is_empty.ensures c.if-is_empty.false in
    let did = c.in-Ok.ensures in
    one_loaded c.args.shape.now (subject_of c.args.whole) (keys_of c.args.range) c.args.bytes.now c.loop-at.rest.now _ c.args.sum.now c.loop-at.sum _ c.loop-at.at c.loop-at.invariant some did.shorter c.add_next.ensures.kept did.added did.written

pub returns-clause-added : goal.returns-clause-added
returns-clause-added c =
    let end : c.loop-at.at ≡ length c.args.bytes.now = omega arith in
    let room = c.loop-at.invariant.room in
    let none : length c.loop-at.rest.now ≡ 0 = omega (arith, room, end) in
    all_added c.args.shape.now (subject_of c.args.whole) (keys_of c.args.range) c.args.bytes.now c.loop-at.rest.now c.args.sum.now c.loop-at.sum c.loop-at.at _ c.loop-at.invariant none (omega (arith, end))

pub returns-clause-written : goal.returns-clause-written
returns-clause-written c =
    let end : c.loop-at.at ≡ length c.args.bytes.now = omega arith in
    let room = c.loop-at.invariant.room in
    let none : length c.loop-at.rest.now ≡ 0 = omega (arith, room, end) in
    all_taken c.args.shape.now (subject_of c.args.whole) (keys_of c.args.range) c.args.bytes.now c.loop-at.rest.now c.args.sum.now c.loop-at.sum c.loop-at.at _ c.loop-at.invariant none (omega (arith, end))

pub returns-in-Err-clause-kept : goal.returns-in-Err-clause-kept
returns-in-Err-clause-kept c = c.in-Err.ensures.kept ∙ c.loop-at.invariant.kept
