-- What is said of words that are no query of parstream.
use Rattle.std.specs.Prelude.{[], ◌++◌, ◌∷◌, ℕ, List, codes, if◌then◌else◌, length, nat_lt, slice_index_or}
use Rattle.shown_text.specs.Shown.{shown_text}
use Rattle.input_hints.specs.Wrong.{expected_text, wrong_in}
use Rattle.input_hints.specs.declared.wrong.Wrong.{Wrong}

-- a text as a line of the program, ended by a line feed
abbrev pub line : List ℕ → List ℕ
line text = codes "parstream: " ++ (text ++ 10 ∷ [])

-- the word at a place, as a line may show it, or that one is missing there
abbrev pub place_text : List (List ℕ) → ℕ → List ℕ
place_text words at =
    if nat_lt at (length words) then shown_text (slice_index_or words at []) ++ codes " is not understood: "
    else codes "a word is missing at the end: "

-- the word that is not understood, what may come there, and how to know more
abbrev pub wrong_text : List (List ℕ) → Wrong → List ℕ
wrong_text words wrong = place_text words wrong.at ++ (expected_text wrong.expected ++ codes "; see parstream --help")

-- what is said of words that are no query: it is about the first that is not understood
abbrev pub refused_text : List (List ℕ) → List ℕ
refused_text words = wrong_text words (wrong_in words)
