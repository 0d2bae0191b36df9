-- Signed numbers as numbers without a sign: each has one, and it fits as many bits.
use Rattle.std.proofs.Common.{◌≡◌, ◌<◌, ◌+◌, ◌*◌, ◌^◌, ℕ, ℤ, pos, negsuc, FitsSigned, ap, arith}
use Rattle.std.specs.Int.{w128}
use Rattle.state_file.specs.Number.{folded}

pub folded_same : (a b : ℤ) → folded a ≡ folded b → a ≡ b
folded_same (pos a) (pos b) e = ap pos (half a b e)
  where
    half : (a b : ℕ) → 2 * a ≡ 2 * b → a ≡ b
    half a b e = omega arith
folded_same (pos a) (negsuc b) e = absurd (omega arith)
folded_same (negsuc a) (pos b) e = absurd (omega arith)
folded_same (negsuc a) (negsuc b) e = ap negsuc (half a b e)
  where
    half : (a b : ℕ) → 2 * a + 1 ≡ 2 * b + 1 → a ≡ b
    half a b e = omega arith

pub folded_fits : (z : ℤ) → FitsSigned w128 z → folded z < 2 ^ 128
folded_fits (pos n) f = let h : n < 2 ^ 127 = f.sfits in omega arith
folded_fits (negsuc n) f = let h : n < 2 ^ 127 = f.sfits in omega arith
