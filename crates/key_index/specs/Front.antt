-- The first bytes of keys, and what they say of the keys' order.
use Rattle.std.specs.Prelude.{◌≡◌, ◌<◌, ◌+◌, ◌*◌, ◌^◌, ◌∷◌, ◌++◌, [], ℕ, zero, suc, All, List}

-- each of them is a byte
abbrev pub AllBytes : List ℕ → Type 0
AllBytes bytes = All (λ byte. byte < 256) bytes

-- a key begins with these bytes
pub record IsFrontOf (front key : List ℕ) : Type 0 where
  pub rest : List ℕ
  pub is : key ≡ front ++ rest

-- this many bytes as a number, the highest first, with zeros for those that are missing
unfoldable pub leading : ℕ → List ℕ → ℕ
leading zero bytes = 0
leading (suc count) [] = 0
leading (suc count) (byte ∷ bytes) = byte * 256 ^ count + leading count bytes
