-- The texts of numbers with places, and averages, which are rounded half away from zero, as PostgreSQL's `round` of a
-- numeric.
use Rattle.std.specs.Prelude.{◌+◌, ◌*◌, ◌/◌, ◌%◌, ◌^◌, ◌++◌, ◌∷◌, [], ℕ, zero, suc, ℤ, List, decimal, drop, unsigned_abs}
use Rattle.std.specs.Fmt.{sign_text}
use Rattle.std.specs.Int.{is_negative}
use Rattle.par_model.specs.Number.{signed}

-- a point and the last digits of a number, this many; nothing for no digits
abbrev pub places_text : ℕ → ℕ → List ℕ
places_text zero n = []
places_text (suc more) n = 46 ∷ drop 1 (decimal (10 ^ suc more + n % 10 ^ suc more))

-- a number of units of 10 ^ -places: the whole part, and its places after a point
unfoldable pub number_text : ℕ → ℤ → List ℕ
number_text places n = sign_text (is_negative n) ++ (decimal (unsigned_abs n / 10 ^ places) ++ places_text places (unsigned_abs n))

-- the quotient, rounded half up
abbrev pub rounded : ℕ → ℕ → ℕ
rounded size count = (2 * size + count) / (2 * count)

-- the average of `count` numbers that have this sum, in ten-thousandths of their unit; a zero has no sign
abbrev pub average : ℤ → ℕ → ℤ
average sum count = signed (is_negative sum) (rounded (10000 * unsigned_abs sum) count)
