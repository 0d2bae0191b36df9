-- What a line is made of: words between single spaces, names, and numbers.
use Rattle.std.specs.Prelude.{◌==◌, ◌&&◌, ℕ, Bool, List, Option, Some, None, length, nat_le, nat_lt, if◌then◌else◌}
use Rattle.std.specs.Char.{is_ascii_digit}
use Rattle.std.specs.List.{after_first, before_first, list_all, list_any, slice_split}
use Rattle.std.specs.Str.Parse.{digits_value}

-- whether a byte is a space
abbrev pub is_space : ℕ → Bool
is_space byte = byte == 32

-- the words of a line, which single spaces part
abbrev pub words_of : List ℕ → List (List ℕ)
words_of line = slice_split is_space line

-- a text up to its first space
abbrev pub first_word : List ℕ → List ℕ
first_word text = before_first is_space text

-- what follows the first space of a text, if it has one
abbrev pub behind_word : List ℕ → Option (List ℕ)
behind_word text = if list_any is_space text then Some (after_first is_space text) else None

-- a name: one to 64 bytes
abbrev pub name_in : List ℕ → Option (List ℕ)
name_in word = if nat_lt 0 (length word) && nat_le (length word) 64 then Some word else None

-- a number: one to twenty digits, with a value from `least` to `most`
abbrev pub number_in : ℕ → ℕ → List ℕ → Option ℕ
number_in least most word =
    if (nat_lt 0 (length word) && nat_le (length word) 20) && (list_all is_ascii_digit word && (nat_le least (digits_value 10 word) && nat_le (digits_value 10 word) most))
    then Some (digits_value 10 word) else None

-- any number of a word of memory
abbrev pub word_in : List ℕ → Option ℕ
word_in word = number_in 0 18446744073709551615 word
