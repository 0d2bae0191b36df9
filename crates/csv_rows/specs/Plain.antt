-- A text without quotes: its records are what lies between line ends, and their fields what lies between commas.
use Rattle.std.specs.Prelude.{◌≡◌, ◌≢◌, ◌<◌, ◌==◌, ◌||◌, ◌&&◌, length, slice_index, ℕ, Bool, true, false, List, [], ◌∷◌, ◌++◌, if◌then◌else◌}

-- a byte that ends a line
abbrev pub is_line_end : ℕ → Bool
is_line_end c = (c == 13) || (c == 10)

-- whether a list is empty
abbrev pub is_none : {A : Type 0} → List A → Bool
is_none [] = true
is_none (x ∷ xs) = false

-- the record that a line end or the end of the text ends: none if nothing comes before it
abbrev pub closed : List (List ℕ) → List ℕ → List (List (List ℕ))
closed fields field = if is_none field && is_none fields then [] else (fields ++ (field ∷ [])) ∷ []

-- the records of a text without quotes, after the fields of the record at hand and the bytes of the field at hand: empty
-- lines are no records
unfoldable pub plain_from : List (List ℕ) → List ℕ → List ℕ → List (List (List ℕ))
plain_from fields field [] = closed fields field
plain_from fields field (c ∷ rest) =
    if c == 44 then plain_from (fields ++ (field ∷ [])) [] rest
    else if is_line_end c then closed fields field ++ plain_from [] [] rest
    else plain_from fields (field ++ (c ∷ [])) rest

-- the records of a text without quotes
abbrev pub plain_records : List ℕ → List (List (List ℕ))
plain_records text = plain_from [] [] text

-- a byte that parts fields or records
abbrev pub is_mark : ℕ → Bool
is_mark c = (c == 44) || is_line_end c

-- none of these bytes parts anything
abbrev pub NoMark : List ℕ → Type 0
NoMark bytes = (k : ℕ) → k < length bytes → is_mark (slice_index bytes k) ≡ false

-- none of these bytes is a carriage return
abbrev pub NoReturn : List ℕ → Type 0
NoReturn bytes = (k : ℕ) → k < length bytes → slice_index bytes k ≢ 13
