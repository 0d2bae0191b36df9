-- Sums of squares.
use Rattle.std.specs.Prelude.{ℕ, zero, suc, ◌+◌, ◌*◌, ◌%◌, ◌^◌}

-- the sum of the squares of all numbers below this one, modulo 2^64
abbrev pub squares_below : ℕ → ℕ
squares_below zero = 0
squares_below (suc n) = (squares_below n + (n * n) % 2 ^ 64) % 2 ^ 64
