-- What a call makes of the text under a name, and its reply.
use Rattle.std.specs.Prelude.{◌≡◌, ℕ, List, [], ◌∷◌, Option, Some, None, slice_index_or}
use Rattle.uses_table.specs.declared.text.Text.{Text}
use Rattle.uses_table.specs.declared.text.TextCall.{TextCall}
use Rattle.uses_table.specs.declared.text.TextCall.TheVariants.{Get, Set, Remove}

-- the words of a text
abbrev pub words_of : Text → List ℕ
words_of text = text.words

-- the text afterwards
abbrev pub after : Option Text → TextCall → Option Text
after text Get = text
after text (Set new) = Some new
after text Remove = None

-- the reply is the text before
abbrev pub stepped : Option Text → TextCall → Option Text × Option Text
stepped text call = (after text call, text)

-- the caller to whom a name belongs: its number is the name's first word
abbrev pub owner_of : List ℕ → ℕ
owner_of name = slice_index_or name 0 0

-- every caller may get a text, and the name's owner may put one there and take it away
abbrev pub may : ℕ → List ℕ → TextCall → Type 0
may caller name Get = Unit {0}
may caller name (Set text) = owner_of name ≡ caller
may caller name Remove = owner_of name ≡ caller

-- the text that calls leave, one after another
abbrev pub left_by : Option Text → List (TextCall × Option Text) → Option Text
left_by text [] = text
left_by text (made ∷ rest) = left_by (after text made.0) rest
