-- Bytes in words of eight, the lowest byte first (little-endian), with zeros past the end.
use Rattle.std.specs.Prelude.{Bool, ◌&&◌, leb, ltb, ◌^◌, ℕ, zero, suc, ◌+◌, ◌*◌, ◌/◌, ◌%◌, List, [], ◌∷◌, take, drop, All, ◌<◌}

-- each of them is a byte
abbrev pub AllBytes : List ℕ → Type 0
AllBytes bytes = All (λ b. b < 256) bytes

-- how many words these bytes take
abbrev pub word_count : ℕ → ℕ
word_count bytes = (bytes + 7) / 8

-- the number that the bytes encode
abbrev pub value_of : List ℕ → ℕ
value_of [] = 0
value_of (b ∷ bs) = b + 256 * value_of bs

-- the word at a place: its eight bytes
abbrev pub packed : List ℕ → ℕ → ℕ
packed bytes place = value_of (take 8 (drop (8 * place) bytes))

-- the first n words of the bytes
abbrev pub packed_words : ℕ → List ℕ → List ℕ
packed_words zero bytes = []
packed_words (suc n) bytes = value_of (take 8 bytes) ∷ packed_words n (drop 8 bytes)

-- whether byte i of the bytes is one of the word at the place
abbrev pub is_of_word : ℕ → ℕ → Bool
is_of_word place i = leb (8 * place) i && ltb i (8 * place + 8)

-- the byte of the word that is byte i of the bytes
abbrev pub byte_of : ℕ → ℕ → ℕ
byte_of word i = word / 2 ^ (8 * (i % 8)) % 256
