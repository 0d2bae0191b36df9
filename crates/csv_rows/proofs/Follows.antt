-- A scan for quotes follows csv's machine.
use Rattle.std.proofs.Common.{◌≡◌, ◌≢◌, ◌∙◌, ℕ, Bool, true, false, List, [], ◌∷◌, refl, sym, inl, inr}
use Rattle.std.specs.Prelude.{◌==◌, if◌then◌else◌}
use Rattle.std.proofs.lemmas.Bool.{cases_Bool, eqb-true}
use Rattle.csv.specs.Reading.{default_config}
use Rattle.csv.specs.Machine.{in_field, start_field, start_record, step}
use Rattle.csv.specs.declared.parser.State.{State}
use Rattle.csv.specs.declared.parser.State.TheVariants as st
use Rattle.csv_rows.specs.Cuts.{ends_quoted, is_quoted, state_after}
use Rattle.csv_rows.specs.Places.{after_byte, after_other, after_quote, place_after}
use Rattle.csv_rows.specs.declared.place.Place.{Place}
use Rattle.csv_rows.specs.declared.place.Place.TheVariants as place

-- what a scan knows of a state
abbrev pub place_of : State → Place
place_of st.InQuoted = place.Quoted
place_of st.StartRecord = place.Opens
place_of st.StartField = place.Opens
place_of st.AfterQuote = place.Opens
place_of st.AfterCr = place.Opens
place_of st.InField = place.Inside
place_of st.InEscape = place.Inside
place_of st.InComment = place.Inside

-- a state that csv's machine comes to with no comments and no escapes
abbrev pub is_usual : State → Bool
is_usual st.InEscape = false
is_usual st.InComment = false
is_usual st.InQuoted = true
is_usual st.StartRecord = true
is_usual st.StartField = true
is_usual st.AfterQuote = true
is_usual st.AfterCr = true
is_usual st.InField = true

-- a usual state, of which a scan knows this
abbrev Is : State → Place → Type 0
Is s p = (is_usual s ≡ true) × (place_of s ≡ p)

in_field-is : (c : ℕ) → Is (in_field default_config c).0 (after_byte c)
in_field-is c = elim (cases_Bool (c == 44)) [
  | inl e ↦ rw e (refl, refl)
  | inr e ↦ elim (cases_Bool (c == 13)) [
    | inl r ↦ rw (e, r) (refl, refl)
    | inr r ↦ elim (cases_Bool (c == 10)) [ inl l ↦ rw (e, r, l) (refl, refl) | inr l ↦ rw (e, r, l) (refl, refl) ]
  ]
]

start_field-is : (c : ℕ) → (c == 34) ≡ false → Is (start_field default_config c).0 (after_byte c)
start_field-is c q = rw q (in_field-is c)

start_record-is : (c : ℕ) → (c == 34) ≡ false → Is (start_record default_config c).0 (after_byte c)
start_record-is c q = elim (cases_Bool (c == 13)) [
  | inl r ↦ elim (cases_Bool (c == 44)) [ inl e ↦ rw (r, e) (refl, refl) | inr e ↦ rw (r, e) (refl, refl) ]
  | inr r ↦ elim (cases_Bool (c == 10)) [
    | inl l ↦ elim (cases_Bool (c == 44)) [ inl e ↦ rw (r, l, e) (refl, refl) | inr e ↦ rw (r, l, e) (refl, refl) ]
    | inr l ↦ rw (r, l) (rw (r, l) at (start_field-is c q))
  ]
]

after_cr-is : (c : ℕ) → (c == 34) ≡ false → Is (step default_config st.AfterCr c).0 (after_byte c)
after_cr-is c q = elim (cases_Bool (c == 10)) [
  | inl l ↦ elim (cases_Bool (c == 44)) [
    | inl e ↦ rw (l, e) (refl, refl)
    | inr e ↦ elim (cases_Bool (c == 13)) [ inl r ↦ rw (l, e, r) (refl, refl) | inr r ↦ rw (l, e, r) (refl, refl) ]
  ]
  | inr l ↦ rw l (rw l at (start_record-is c q))
]

-- a byte that is no quote
other-is : (s : State) (c : ℕ) → is_usual s ≡ true → (c == 34) ≡ false → Is (step default_config s c).0 (after_other (place_of s) c)
other-is st.StartRecord c u q = start_record-is c q
other-is st.StartField c u q = start_field-is c q
other-is st.InField c u q = in_field-is c
other-is st.InQuoted c u q = rw q (refl, refl)
other-is st.AfterQuote c u q = rw q (in_field-is c)
other-is st.AfterCr c u q = after_cr-is c q
other-is st.InEscape c u q = cc
other-is st.InComment c u q = cc

-- a quote
quote-is : (s : State) → is_usual s ≡ true → Is (step default_config s 34).0 (after_quote (place_of s))
quote-is st.StartRecord u = (refl, refl)
quote-is st.StartField u = (refl, refl)
quote-is st.InField u = (refl, refl)
quote-is st.InQuoted u = (refl, refl)
quote-is st.AfterQuote u = (refl, refl)
quote-is st.AfterCr u = (refl, refl)
quote-is st.InEscape u = cc
quote-is st.InComment u = cc

step-is : (s : State) (c : ℕ) → is_usual s ≡ true → Is (step default_config s c).0 (if c == 34 then after_quote (place_of s) else after_other (place_of s) c)
step-is s c u = elim (cases_Bool (c == 34)) [
  | inl q ↦ let is : c ≡ 34 = eqb-true c 34 q in rw is (quote-is s u)
  | inr q ↦ let is = other-is s c u q in rw q is
]

-- a scan knows the state that the machine comes to
pub scan-follows : (s : State) (xs : List ℕ) → is_usual s ≡ true → (is_usual (state_after s xs) ≡ true) × (place_of (state_after s xs) ≡ place_after (place_of s) xs)
unfolding state_after place_after
scan-follows s [] u = (u, refl)
scan-follows s (c ∷ xs) u =
    let first = step-is s c u in
    let rest = scan-follows (step default_config s c).0 xs first.0 in
    (rest.0, rw (← first.1) rest.1)

place-quoted : (s : State) → place_of s ≢ place.Quoted → is_quoted s ≡ false
place-quoted st.StartRecord h = refl
place-quoted st.StartField h = refl
place-quoted st.InField h = refl
place-quoted st.InQuoted h = absurd (h refl)
place-quoted st.AfterQuote h = refl
place-quoted st.AfterCr h = refl
place-quoted st.InEscape h = refl
place-quoted st.InComment h = refl

-- so a scan tells where a table can be cut
pub scan-cut : (xs : List ℕ) → place_after place.Opens xs ≢ place.Quoted → ends_quoted xs ≡ false
scan-cut xs h =
    let is = scan-follows st.StartRecord xs refl in
    place-quoted (state_after st.StartRecord xs) (λ e. h (sym is.1 ∙ e))
