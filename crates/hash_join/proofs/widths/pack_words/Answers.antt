use Rattle.std.proofs.Common.{◌≡◌, ◌-◌, ◌∙◌, ℕ, suc, ap, arith, take}
use Rattle.hash_join.proofs.Fits.{packs_words}
use Rattle.hash_join.proofs.widths.pack_words.Goals as goal

pub returns : goal.returns
returns c =
    let key = c.loop-i.key in
    let m = c.args.words - 1 in
    let more : c.args.words ≡ suc m = omega (arith, c.requires) in
    let is = c.loop-i.invariant in
    ap (λ (n : ℕ). take n key) more ∙ packs_words m key c.args.field.now is.long (omega (arith, c.requires)) is.head (λ k lt. is.words k (omega (arith, lt, c.loop-i-test.false)))
