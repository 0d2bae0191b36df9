-- The words of a command line.
use Rattle.std.specs.Prelude.{ℕ, List, String, map, string_bytes}

-- the bytes of each word
abbrev pub texts : {A : Type 0} → List (String A) → List (List ℕ)
texts words = map string_bytes words
