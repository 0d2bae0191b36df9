-- The lines of a script, one after another.
use Rattle.std.proofs.Common.{◌≡◌, ◌≢◌, ◌∙◌, ℕ, ◌<◌, ◌==◌, ◌+◌, ◌-◌, Bool, false, List, [], ◌∷◌, length, length-drop, take, drop, None, Some, refl, ap, sym, arith}
use Rattle.std.proofs.lemmas.List.Splits.{length-slice_split, slice_split_first, slice_split_none}
use Rattle.std.specs.List.{All, after_first, before_first, position, position_or_len, slice_split}
use Rattle.shell_lines.proofs.Cuts.{found-at, not-found, take-rest}
use Rattle.par_shell.specs.Scripts.{lines_of, without_empty_last}

-- a line feed
abbrev is_feed : ℕ → Bool
is_feed byte = byte == 10

-- of two pieces or more the first stays
keeps-first : (piece next : List ℕ) (more : List (List ℕ)) → without_empty_last (piece ∷ next ∷ more) ≡ piece ∷ without_empty_last (next ∷ more)
keeps-first [] next more = refl
keeps-first (x ∷ xs) next more = refl

-- a piece by itself that is not empty stays
keeps-last : (piece : List ℕ) → piece ≢ [] → without_empty_last (piece ∷ []) ≡ piece ∷ []
keeps-last [] some = absurd (some refl)
keeps-last (x ∷ xs) some = refl

-- the pieces of a text are one at least
behind : (piece : List ℕ) (pieces : List (List ℕ)) → 0 < length pieces → without_empty_last (piece ∷ pieces) ≡ piece ∷ without_empty_last pieces
behind piece [] some = absurd (omega arith)
behind piece (next ∷ more) some = keeps-first piece next more

-- a text with a line feed begins with a line
pub line-before-feed : (script : List ℕ) → position_or_len is_feed script < length script → lines_of script ≡ before_first is_feed script ∷ lines_of (after_first is_feed script)
line-before-feed script lt =
    let pieces = slice_split_first is_feed script 0 lt in
    let some : 0 < length (slice_split is_feed (after_first is_feed script)) = omega (arith, length-slice_split is_feed (after_first is_feed script)) in
    ap without_empty_last pieces ∙ behind (before_first is_feed script) (slice_split is_feed (after_first is_feed script)) some

-- one without is its last line
pub last-line : (script : List ℕ) → All (λ byte. is_feed byte ≡ false) script → script ≢ [] → lines_of script ≡ script ∷ []
last-line script none some = ap without_empty_last (slice_split_none is_feed script none) ∙ keeps-last script some

-- a line feed was found
pub next-at : (script : List ℕ) (at : ℕ) → Some at ≡ position is_feed script → lines_of script ≡ take at script ∷ lines_of (take (length script - (at + 1)) (drop (at + 1) script))
next-at script at e =
    let f = found-at is_feed script at e in
    line-before-feed script f.1 ∙ (ap (λ (n : ℕ). take n script ∷ lines_of (drop (n + 1) script)) (sym f.0) ∙ ap (λ (l : List ℕ). take at script ∷ lines_of l) (sym (take-rest (at + 1) script)))

pub shorter-at : (script : List ℕ) (at : ℕ) → Some at ≡ position is_feed script → length (take (length script - (at + 1)) (drop (at + 1) script)) < length script
shorter-at script at e =
    let f = found-at is_feed script at e in
    omega (arith, ap length (take-rest (at + 1) script), length-drop (at + 1) script, f.0, f.1)

-- none was found
pub next-last : (script : List ℕ) → None ≡ position is_feed script → script ≢ [] → lines_of script ≡ script ∷ lines_of []
next-last script e some = last-line script (not-found is_feed script e).2 some

-- a script with something in it
pub some-left : (script : List ℕ) (empty : Bool) → empty ≡ (length script == 0) → empty ≡ false → script ≢ []
some-left [] empty e f z = cc
some-left (x ∷ xs) empty e f z = cc
