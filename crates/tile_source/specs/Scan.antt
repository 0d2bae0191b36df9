-- A scan of bytes for the first seam from some place on.
use Rattle.std.specs.Prelude.{◌≡◌, ◌<◌, ◌≤◌, ◌&&◌, Bool, true, false, not, ℕ, zero, suc, List, [], ◌∷◌, drop, length, slice_index, take, if◌then◌else◌}
use Rattle.csv_rows.specs.Places.{is_quoted_place, place_after}
use Rattle.csv_rows.specs.declared.place.Place.{Place}
use Rattle.row_windows.specs.Seams.{is_line_end}

-- whether a table can be cut in front of a byte that a scan meets at this place: it ends a line and is not between quotes
abbrev pub is_seam : Place → ℕ → Bool
is_seam p c = is_line_end c && not (is_quoted_place p)

-- how many bytes come before the first seam that has at least this many before it: all of them if there is none
unfoldable pub cut_len : Place → ℕ → List ℕ → ℕ
cut_len p least [] = 0
cut_len p zero (c ∷ rest) = if is_seam p c then 0 else suc (cut_len (place_after p (c ∷ [])) 0 rest)
cut_len p (suc least) (c ∷ rest) = suc (cut_len (place_after p (c ∷ [])) least rest)

-- these bytes
abbrev pub cut_text : Place → ℕ → List ℕ → List ℕ
cut_text p least bytes = take (cut_len p least bytes) bytes

-- and those that come after them
abbrev pub cut_rest : Place → ℕ → List ℕ → List ℕ
cut_rest p least bytes = drop (cut_len p least bytes) bytes

-- the first seam of some bytes, at the first of which a scan is at this place: or all of them, if there is none
pub record IsFirst (p : Place) (bytes : List ℕ) (n : ℕ) : Type 0 where
  pub within : n ≤ length bytes
  pub before : (k : ℕ) → k < n → is_seam (place_after p (take k bytes)) (slice_index bytes k) ≡ false
  pub seam : n < length bytes → is_seam (place_after p (take n bytes)) (slice_index bytes n) ≡ true
