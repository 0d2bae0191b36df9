-- The whole messages that words are, and what is left over. `ring_rule`'s `Frames` says how a message lies in words.
use Rattle.std.specs.Prelude.{ℕ, zero, suc, ◌/◌, ◌%◌, Bool, true, false, cond, ◌&&◌, ◌==◌, List, [], ◌∷◌, ◌++◌, length, take, drop, Option, Some, None}
use Rattle.std.specs.Option.{option_map_or}
use Rattle.rel_pointer.specs.Bytes.{word_count}
use Rattle.ring_rule.specs.Frames.{frame, frames}

-- the n lowest bytes of a number, the lowest first
abbrev pub digits_of : ℕ → ℕ → List ℕ
digits_of zero word = []
digits_of (suc n) word = word % 256 ∷ digits_of n (word / 256)

-- the bytes of words
abbrev pub bytes_of : List ℕ → List ℕ
bytes_of [] = []
bytes_of (w ∷ ws) = digits_of 8 w ++ bytes_of ws

-- whether words begin with these
abbrev pub begins : List ℕ → List ℕ → Bool
begins words [] = true
begins [] (x ∷ xs) = false
begins (w ∷ words) (x ∷ xs) = (w == x) && begins words xs

-- the message that words give, read as a length and bytes
abbrev pub message_at : List ℕ → List ℕ
message_at [] = []
message_at (n ∷ ws) = take n (bytes_of (take (word_count n) ws))

-- the message with whose frame the words begin
abbrev pub first_of : List ℕ → Option (List ℕ)
first_of words = cond (begins words (frame (message_at words))) (Some (message_at words)) None

-- the messages, n at most, with whose frames the words begin
abbrev pub whole_in : ℕ → List ℕ → List (List ℕ)
whole_in zero words = []
whole_in (suc n) words =
    option_map_or (λ m. m ∷ whole_in n (drop (length (frame m)) words)) (first_of words) []

-- the whole messages of words. No more messages than words are looked for, since each takes one word at least
unfoldable pub whole_of : List ℕ → List (List ℕ)
whole_of words = whole_in (length words) words

-- the words after the whole messages
unfoldable pub left_of : List ℕ → List ℕ
left_of words = drop (length (frames (whole_of words))) words
