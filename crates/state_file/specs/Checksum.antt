-- CRC-32C, the checksum of iSCSI (RFC 3720, 12.1): the remainder of the message, as a polynomial over bits, by that of
-- Castagnoli. The lowest bit of each byte comes first.
use Rattle.std.specs.Prelude.{ℕ, zero, suc, ◌-◌, ◌/◌, ◌%◌, ◌^◌, ◌==◌, List, bit_xor, fold, if◌then◌else◌}
use Rattle.std.specs.Int.{bit_not, w32}

-- the polynomial 0x1EDC6F41 without its highest power, its bits from the last to the first
abbrev pub polynomial : ℕ
polynomial = 0x82F63B78

-- the register after its lowest bit was shifted out, by that bit and what is left
abbrev pub divided : ℕ → ℕ → ℕ
divided bit left = if bit == 1 then bit_xor left polynomial else left

abbrev pub shifted : ℕ → ℕ
shifted register = divided (register % 2) (register / 2)

-- after this many bits
unfoldable pub shifted_by : ℕ → ℕ → ℕ
shifted_by zero register = register
shifted_by (suc bits) register = shifted (shifted_by bits register)

-- after a byte was taken in
unfoldable pub taken_in : ℕ → ℕ → ℕ
taken_in register byte = shifted_by 8 (bit_xor register byte)

-- the checksum of some bytes: the register begins with ones, and ends as its complement
unfoldable pub crc32c : List ℕ → ℕ
crc32c bytes = bit_not w32 (fold taken_in (2 ^ 32 - 1) bytes)
