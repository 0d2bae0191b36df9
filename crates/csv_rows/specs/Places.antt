-- What a scan for quotes knows of csv's machine: whether it is between quotes, and whether a quote would go there.
use Rattle.std.specs.Prelude.{◌≢◌, ◌<◌, Bool, true, false, ◌==◌, ◌||◌, ◌&&◌, nat_le, ℕ, List, [], ◌∷◌, length, slice_index, if◌then◌else◌}
use Rattle.csv_rows.specs.declared.place.Place.{Place}
use Rattle.csv_rows.specs.declared.place.Place.TheVariants as place

-- whether a scan is between quotes
abbrev pub is_quoted_place : Place → Bool
is_quoted_place place.Quoted = true
is_quoted_place place.Opens = false
is_quoted_place place.Inside = false

-- the place after a byte outside quotes that is not a quote
abbrev pub after_byte : ℕ → Place
after_byte c = if (c == 44) || (c == 13) || (c == 10) then place.Opens else place.Inside

-- the place after a quote
abbrev pub after_quote : Place → Place
after_quote place.Quoted = place.Opens
after_quote place.Opens = place.Quoted
after_quote place.Inside = place.Inside

-- the place after a byte that is no quote
abbrev pub after_other : Place → ℕ → Place
after_other place.Quoted c = place.Quoted
after_other place.Opens c = after_byte c
after_other place.Inside c = after_byte c

-- the place after these bytes
unfoldable pub place_after : Place → List ℕ → Place
place_after p [] = p
place_after p (c ∷ rest) = place_after (if c == 34 then after_quote p else after_other p c) rest

-- none of these bytes is a quote
abbrev pub NoQuote : List ℕ → Type 0
NoQuote bytes = (k : ℕ) → k < length bytes → slice_index bytes k ≢ 34

-- a text begins with a byte order mark
abbrev pub has_mark : List ℕ → Bool
has_mark bytes = nat_le 3 (length bytes) && (slice_index bytes 0 == 0xEF) && (slice_index bytes 1 == 0xBB) && (slice_index bytes 2 == 0xBF)
