use Rattle.std.proofs.Common.{◌≡◌, ◌+◌, ◌∙◌, ℕ, ap, arith, length, refl, slice_index, subst, sym}
use Rattle.csv_rows.specs.Places.{place_after}
use Rattle.good_rows.specs.Judging.{GoesOn}
use Rattle.good_rows.proofs.Left.{goes_more, goes_none, one_byte}
use Rattle.good_rows.proofs.line.line_end.Goals as goal

pub bytes-init : goal.bytes-init
bytes-init c = goes_none c.args.start c.args.bytes.now

pub bytes-preserved : goal.bytes-preserved
bytes-preserved c =
    let bytes = c.args.bytes.now in
    let at = c.bytes.at in
    let p = c.bytes.place in
    let here = c.scanned-place.ensures ∙ ap (place_after p) (one_byte bytes at (omega arith)) in
    subst (GoesOn c.args.start bytes (at + 1)) (sym here) (goes_more c.args.start bytes at p (slice_index bytes at) (omega arith) refl (sym c.ends_here.ensures ∙ c.if-ends_here.false) c.bytes.invariant)

pub returns-then-ends_here-clause-goes : goal.returns-then-ends_here-clause-goes
returns-then-ends_here-clause-goes c = c.bytes.invariant

pub returns-clause-goes : goal.returns-clause-goes
returns-clause-goes c =
    let all : c.bytes.at ≡ length c.args.bytes.now = omega arith in
    subst (λ (n : ℕ). GoesOn c.args.start c.args.bytes.now n c.bytes.place) all c.bytes.invariant
