use Rattle.std.proofs.Common.{◌≡◌, ◌+◌, ◌-◌, ◌==◌, ◌<◌, ◌∙◌, ℕ, Bool, false, ap, arith, length, sym, zero, suc}
use Rattle.std.specs.Global.{Vec}
use Rattle.std.specs.Ordering.{is_lt}
use Rattle.std.proofs.lemmas.Bool.{true≢false}
use Rattle.state_ranges.proofs.Rising.{closed_of, push_after}
use Rattle.state_ranges.proofs.cuts.follows.Goals as goal

some_of : (n : ℕ) (b : Bool) → b ≡ (n == 0) → b ≡ false → 0 < n
some_of zero b e f = absurd (true≢false (sym e ∙ f))
some_of (suc n) b e f = omega arith

pub returns : goal.returns
returns c =
    let cuts = c.args.cuts.now in
    let some = some_of (length cuts) c.is_empty-2.result c.is_empty-2.ensures c.if-is_empty-2.false in
    let many : length cuts - 1 + 1 ≡ length cuts = omega (arith, some) in
    λ holds rise.
    push_after c.args.columns cuts c.as_slice-last.result.now c.args.key.now (length cuts - 1) c.index-cuts-cuts.result c.is_lt.result (closed_of c.args.key.now c.is_empty.result c.is_empty.ensures c.if-is_empty.false) many
    (c.as_slice-last.ensures.value ∙ ap (λ (v : Vec ℕ). v.items) c.index-cuts-cuts.is) (c.is_lt.ensures ∙ ap is_lt c.compare_columns.ensures) holds rise
