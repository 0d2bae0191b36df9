-- Rows made of the numbers of a generator: the three shifts of Marsaglia's xorshift in 64 bits ("Xorshift RNGs", Journal
-- of Statistical Software 8, 2003), here 13 to the left, 7 to the right and 17 to the left.
use Rattle.std.specs.Prelude.{◌*◌, ◌/◌, ◌%◌, ◌^◌, ◌++◌, ◌∷◌, [], ◌-ℤ◌, ℕ, ℤ, zero, suc, pos, List, bit_xor, codes, decimal, map}
use Rattle.std.specs.Fmt.{signed_decimal}

-- a number of 64 bits with itself shifted to the left, and to the right
abbrev pub shifted_left : ℕ → ℕ → ℕ
shifted_left x places = bit_xor x (x * 2 ^ places % 2 ^ 64)

abbrev pub shifted_right : ℕ → ℕ → ℕ
shifted_right x places = bit_xor x (x / 2 ^ places)

-- the number that comes after a number
unfoldable pub next_of : ℕ → ℕ
next_of x = shifted_left (shifted_right (shifted_left x 13) 7) 17

-- this many numbers, those that come after a seed
unfoldable pub numbers : ℕ → ℕ → List ℕ
numbers seed zero = []
numbers seed (suc count) = next_of seed ∷ numbers (next_of seed) count

-- the group of a number, and its value
abbrev pub name_of : ℕ → List ℕ
name_of x = codes "k" ++ decimal (x % 1000)

abbrev pub value_of : ℕ → ℤ
value_of x = pos (x / 2 ^ 32 % 2001) -ℤ pos 1000

-- its record
unfoldable pub record_of : ℕ → List (List ℕ)
record_of x = name_of x ∷ signed_decimal (value_of x) ∷ []

-- the header
abbrev pub header : List (List ℕ)
header = codes "g" ∷ codes "v" ∷ []

-- the records: the header, and one for each number
abbrev pub generated : ℕ → ℕ → List (List (List ℕ))
generated seed count = header ∷ map record_of (numbers seed count)
