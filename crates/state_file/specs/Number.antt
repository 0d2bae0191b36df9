-- Numbers in as few bytes as they need: LEB128, in its one shortest form.
use Rattle.std.specs.Prelude.{ℕ, zero, suc, ◌≡◌, ◌<◌, ◌+◌, ◌++◌, ◌*◌, ◌/◌, ◌%◌, ℤ, pos, negsuc, List, [], ◌∷◌, nat_lt, if◌then◌else◌}

-- a number in sevens of bits, the lowest first: each byte but the last has its highest bit set, and at most this many
-- have it
unfoldable pub sevens : ℕ → ℕ → List ℕ
sevens zero n = n ∷ []
sevens (suc more) n = if nat_lt n 128 then n ∷ [] else (128 + n % 128) ∷ sevens more (n / 128)

-- a number of 128 bits, in at most 19 bytes
unfoldable pub number_bytes : ℕ → List ℕ
number_bytes n = sevens 18 n

-- a signed number as one without a sign: 0, -1, 1, -2, 2 as 0, 1, 2, 3, 4
abbrev pub folded : ℤ → ℕ
folded (pos n) = 2 * n
folded (negsuc n) = 2 * n + 1

-- bytes go on with the digits of a number above this many low bits, and there are some: `worth` is what the first of them counts
pub record GoesOnAs (bytes : List ℕ) (low worth more n : ℕ) (rest : List ℕ) : Type 0 where
  pub high : ℕ
  pub some : 0 < high
  pub is : n ≡ low + high * worth
  pub are : (k : ℕ) → bytes ≡ sevens (k + more) high ++ rest
