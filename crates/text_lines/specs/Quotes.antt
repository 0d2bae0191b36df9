-- A quote that is not closed.
use Rattle.std.specs.Prelude.{◌≡◌, ◌<◌, ◌≤◌, ◌==◌, ◌+◌, ◌-◌, ◌&&◌, ◌||◌, Bool, ℕ, List, None, Option, IfSome, false, length, not, slice_index, take, true}
use Rattle.csv_rows.specs.Places.{place_after}
use Rattle.csv_rows.specs.declared.place.Place.{Place}
use Rattle.csv_rows.specs.declared.place.Place.TheVariants as place

-- whether a scan is where a quote would begin such a text
abbrev pub is_open_place : Place → Bool
is_open_place place.Quoted = false
is_open_place place.Opens = true
is_open_place place.Inside = false

-- whether a quote at a place, which a scan has reached so, begins the text of a field: where two are side by side, the
-- second one does not
abbrev pub opens_field : List ℕ → ℕ → Place → Bool
opens_field text at here = is_open_place here && ((at == 0) || not (slice_index text (at - 1) == 34))

-- the text of a field in quotes begins at this place
abbrev pub IsOpening : List ℕ → ℕ → Type 0
IsOpening text at = (slice_index text at ≡ 34) × (opens_field text at (place_after place.Opens (take at text)) ≡ true)

-- no text of a field in quotes begins from one place on to another
abbrev pub NoOpening : List ℕ → ℕ → ℕ → Type 0
NoOpening text from to = (at : ℕ) → from ≤ at → at < to → IsOpening text at → ⊥

-- the last place below another at which one begins, if there is one
pub record IsLastOpening (text : List ℕ) (to : ℕ) (last : Option ℕ) : Type 0 where
  pub some : IfSome last (λ at. (at < to) × IsOpening text at × NoOpening text (at + 1) to)
  pub none : last ≡ None → NoOpening text 0 to

-- A text ends between quotes, and they begin at this place: no later place begins a field's
pub record IsOpenQuote (text : List ℕ) (at : ℕ) : Type 0 where
  pub within : at < length text
  pub opens : IsOpening text at
  pub unclosed : place_after place.Opens text ≡ place.Quoted
  pub last : (k : ℕ) → at < k → k < length text → IsOpening text k → ⊥
