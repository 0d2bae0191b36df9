use Rattle.std.proofs.Common.{◌≡◌, ◌*◌, ◌%◌, ◌^◌, ◌<◌, ◌-◌, ◌∙◌, ℕ, suc, ap, sym, arith, pow_mono, pow_pos, w64, bit_and}
use Rattle.std.proofs.Math.Nat.{two-pow-succ}
use Rattle.std.specs.Int.{bit_at, bit_not}
use Rattle.std.proofs.lemmas.Nat.Bits.{bit_at-zero}
use Rattle.found_rows.proofs.Bits.{kept-bit, no-more-bit}
use Rattle.found_rows.proofs.masks.since.Goals as goal

pub returns-then-skip-ge-BLOCK-clause-kept : goal.returns-then-skip-ge-BLOCK-clause-kept
returns-then-skip-ge-BLOCK-clause-kept c k lt le = absurd (omega (arith, lt, le, c.if-skip-ge-BLOCK.true))

pub returns-then-skip-ge-BLOCK-clause-no_more : goal.returns-then-skip-ge-BLOCK-clause-no_more
returns-then-skip-ge-BLOCK-clause-no_more c k set = absurd (omega (arith, set, bit_at-zero k))

-- the ones below a place, as the code makes them
one-shl : (skip : ℕ) → skip < 64 → 1 * 2 ^ skip % 2 ^ 64 ≡ 2 ^ skip
one-shl skip low =
    let small : 2 ^ skip < 2 ^ 64 = omega (arith, two-pow-succ skip, pow_pos skip, pow_mono {i = suc skip} {j = 64} (omega (arith, low))) in
    omega arith

pub returns-clause-kept : goal.returns-clause-kept
returns-clause-kept c k lt le =
    let low : c.args.skip < 64 = omega arith in
    ap (λ x. bit_at (bit_and c.args.mask (bit_not w64 (x - 1))) k) (one-shl c.args.skip low) ∙ kept-bit c.args.mask c.args.skip low k lt le

pub returns-clause-no_more : goal.returns-clause-no_more
returns-clause-no_more c k set =
    let low : c.args.skip < 64 = omega arith in
    no-more-bit c.args.mask c.args.skip low k (sym (ap (λ x. bit_at (bit_and c.args.mask (bit_not w64 (x - 1))) k) (one-shl c.args.skip low)) ∙ set)
