-- How many records stand in front of the first end of a line that stands outside quotes and behind a byte that ends none.
use Rattle.std.proofs.Common.{◌≡◌, ◌<◌, ◌≤◌, ◌+◌, ◌-◌, ◌∙◌, ◌⊎◌, inl, inr, ℕ, zero, suc, Bool, true, false, List, [], ◌∷◌, length, take, slice_index, refl, sym, subst, ap, arith}
use Rattle.std.specs.Prelude.{◌==◌}
use Rattle.std.proofs.lemmas.Bool.{cases_Bool, cases_lt}
use Rattle.std.proofs.lemmas.List.{get_or-take, length-take, take_all, take-take}
use Rattle.csv.specs.Machine.{ends_at_end, field_after, fields_after, in_field, is_end, start_field, start_record, step}
use Rattle.csv.specs.Reading.{default_config, records, strip_bom}
use Rattle.csv.specs.declared.parser.Action.{Action}
use Rattle.csv.specs.declared.parser.Action.TheVariants as act
use Rattle.csv.specs.declared.parser.State.{State}
use Rattle.csv.specs.declared.parser.State.TheVariants as st
use Rattle.csv_rows.specs.Cuts.{is_quoted, state_after}
use Rattle.csv_rows.specs.Places.{place_after}
use Rattle.csv_rows.specs.Records.{records_of}
use Rattle.csv_rows.specs.declared.place.Place.TheVariants as place
use Rattle.csv_rows.proofs.Follows.{scan-follows}
use Rattle.csv_rows.proofs.Machine.{all_from, records-all}
use Rattle.csv_rows.proofs.Marks.{text-marked}
use Rattle.row_windows.specs.Ends.{AllEnd, IsFirstEnd, NoneBehind}
use Rattle.row_windows.specs.Seams.{is_line_end}
use Rattle.row_windows.proofs.Cuts.{place-quoted}

-- a record is at hand
abbrev is_begun : State → Bool
is_begun st.StartRecord = false
is_begun st.AfterCr = false
is_begun st.InEscape = false
is_begun st.InComment = false
is_begun st.StartField = true
is_begun st.InField = true
is_begun st.InQuoted = true
is_begun st.AfterQuote = true

-- a step that goes on with it
abbrev GoesOn : State × Action → Type 0
GoesOn p = (is_end p.1 ≡ false) × (is_begun p.0 ≡ true)

apart : (c : ℕ) → is_line_end c ≡ false → ((c == 10) ≡ false) × ((c == 13) ≡ false)
apart c h = elim (cases_Bool (c == 10)) [ inl e ↦ let bad = rw e at h in cc bad | inr e ↦ (e, rw e at h) ]

in_field-goes : (c : ℕ) → is_line_end c ≡ false → GoesOn (in_field default_config c)
in_field-goes c h =
    let no = apart c h in
    elim (cases_Bool (c == 44)) [ inl e ↦ rw e (refl, refl) | inr e ↦ rw (e, no.0, no.1) (refl, refl) ]

start_field-goes : (c : ℕ) → is_line_end c ≡ false → GoesOn (start_field default_config c)
start_field-goes c h = elim (cases_Bool (c == 34)) [ inl e ↦ rw e (refl, refl) | inr e ↦ rw e (in_field-goes c h) ]

-- at the start of a record a byte that ends no line begins one, and an end of a line is passed over
start_record-goes : (c : ℕ) → is_line_end c ≡ false → GoesOn (start_record default_config c)
start_record-goes c h =
    let no = apart c h in
    rw (no.0, no.1) (rw (no.0, no.1) at (start_field-goes c h))

start_record-stays : (c : ℕ) → is_line_end c ≡ true → ((start_record default_config c).1 ≡ act.Skip) × ((start_record default_config c).0 ≡ st.StartRecord)
start_record-stays c h = elim (cases_Bool (c == 13)) [
  | inl r ↦ rw r (refl, refl)
  | inr r ↦ elim (cases_Bool (c == 10)) [ inl l ↦ rw (r, l) (refl, refl) | inr l ↦ let bad = rw (r, l) at h in cc bad ]
]

-- outside quotes the byte ends no line
no-end : (c : ℕ) → (is_line_end c ≡ true → false ≡ true) → is_line_end c ≡ false
no-end c h = elim (cases_Bool (is_line_end c)) [ inl e ↦ let bad = h e in cc bad | inr e ↦ e ]

-- a record at hand goes on, up to the end of a line that does not stand between quotes
step-goes : (s : State) (c : ℕ) → is_begun s ≡ true → (is_line_end c ≡ true → is_quoted s ≡ true) → GoesOn (step default_config s c)
step-goes st.StartRecord c b h = cc b
step-goes st.AfterCr c b h = cc b
step-goes st.InEscape c b h = cc b
step-goes st.InComment c b h = cc b
step-goes st.StartField c b h = start_field-goes c (no-end c h)
step-goes st.InField c b h = in_field-goes c (no-end c h)
step-goes st.InQuoted c b h = elim (cases_Bool (c == 34)) [ inl e ↦ rw e (refl, refl) | inr e ↦ rw e (refl, refl) ]
step-goes st.AfterQuote c b h = elim (cases_Bool (c == 34)) [ inl e ↦ rw e (refl, refl) | inr e ↦ rw e (in_field-goes c (no-end c h)) ]

begun-ends : (s : State) → is_begun s ≡ true → ends_at_end s ≡ true
begun-ends st.StartRecord b = cc b
begun-ends st.AfterCr b = cc b
begun-ends st.InEscape b = refl
begun-ends st.InComment b = refl
begun-ends st.StartField b = refl
begun-ends st.InField b = refl
begun-ends st.InQuoted b = refl
begun-ends st.AfterQuote b = refl

-- a record at hand is the only one, where each end of a line stands between quotes
in-record : (s : State) (fields : List (List ℕ)) (field xs : List ℕ) → is_begun s ≡ true
    → ((k : ℕ) → k < length xs → is_line_end (slice_index xs k) ≡ true → is_quoted (state_after s (take k xs)) ≡ true) → length (all_from s fields field xs) ≡ 1
unfolding all_from state_after
in-record s fields field [] b h = rw (begun-ends s b) refl
in-record s fields field (c ∷ xs) b h =
    let goes = step-goes s c b (h 0 (omega arith)) in
    rw goes.0 (in-record (step default_config s c).0 (fields_after (step default_config s c).1 fields field) (field_after (step default_config s c).1 c field) xs goes.1 (λ k lt line. h (suc k) (omega arith) line))

-- how many records a text has of which some byte ends no line, or none
pub record Few (xs : List ℕ) (count : ℕ) : Type 0 where
  pub most : count ≤ 1
  pub begun : (j : ℕ) → j < length xs → is_line_end (slice_index xs j) ≡ false → count ≡ 1

both : (c : ℕ) → is_line_end c ≡ true → is_line_end c ≡ false → ⊥
both c h g = let bad : true ≡ false = sym h ∙ g in cc bad

later-begun : (c count : ℕ) (xs : List ℕ) → is_line_end c ≡ true → Few xs count → (j : ℕ) → j < length (c ∷ xs) → is_line_end (slice_index (c ∷ xs) j) ≡ false → count ≡ 1
later-begun c count xs line few zero lt other = absurd (both c line other)
later-begun c count xs line few (suc j) lt other = few.begun j (omega arith) other

-- the same of what stands behind the first byte
later-line : (c : ℕ) (xs : List ℕ) (k : ℕ) → is_line_end c ≡ true → (is_quoted (state_after st.StartRecord (c ∷ take k xs)) ≡ true) ⊎ AllEnd (c ∷ xs) (suc k)
    → (is_quoted (state_after st.StartRecord (take k xs)) ≡ true) ⊎ AllEnd xs k
unfolding state_after
later-line c xs k line (inl q) = inl (subst (λ (s : State). is_quoted (state_after s (take k xs)) ≡ true) (start_record-stays c line).1 q)
later-line c xs k line (inr all) = inr (λ at lt. all (suc at) (omega arith))

later-quoted : (c : ℕ) (xs : List ℕ) (k : ℕ) → is_line_end c ≡ false → (is_quoted (state_after st.StartRecord (c ∷ take k xs)) ≡ true) ⊎ AllEnd (c ∷ xs) (suc k)
    → is_quoted (state_after (start_record default_config c).0 (take k xs)) ≡ true
unfolding state_after
later-quoted c xs k other (inl q) = q
later-quoted c xs k other (inr all) = absurd (both c (all 0 (omega arith)) other)

at-start : (xs : List ℕ) → ((k : ℕ) → k < length xs → is_line_end (slice_index xs k) ≡ true → (is_quoted (state_after st.StartRecord (take k xs)) ≡ true) ⊎ AllEnd xs k)
    → Few xs (length (all_from st.StartRecord [] [] xs))
unfolding all_from state_after
at-start [] h = record { most = omega arith; begun = λ j lt. absurd (omega arith) }
at-start (c ∷ xs) h = elim (cases_Bool (is_line_end c)) [
  | inl line ↦
      let stays = start_record-stays c line in
      let few = at-start xs (λ k lt is. later-line c xs k line (h (suc k) (omega arith) is)) in
      rw (stays.0, stays.1) (record { most = few.most; begun = later-begun c _ xs line few })
  | inr other ↦
      let goes = start_record-goes c other in
      let one = in-record (start_record default_config c).0 (fields_after (start_record default_config c).1 [] []) (field_after (start_record default_config c).1 c []) xs goes.1 (λ k lt is. later-quoted c xs k other (h (suc k) (omega arith) is)) in
      rw goes.0 (record { most = omega (arith, one); begun = λ j lt is. one })
]

-- between quotes, a scan and the machine
quoted-state : (xs : List ℕ) → place_after place.Opens xs ≡ place.Quoted → is_quoted (state_after st.StartRecord xs) ≡ true
quoted-state xs h =
    let is = scan-follows st.StartRecord xs refl in
    place-quoted (state_after st.StartRecord xs) (is.1 ∙ h)

byte-front : (text : List ℕ) (n k : ℕ) → k < n → slice_index (take n text) k ≡ slice_index text k
byte-front text n k lt = get_or-take n text k 0 lt

-- the front of a text
front-few : (text : List ℕ) (n : ℕ) → n ≤ length text → NoneBehind text n → Few (take n text) (length (all_from st.StartRecord [] [] (take n text)))
front-few text n within none = at-start (take n text) (λ k lt line.
    let short : k < n = omega (arith, lt, length-take n text) in
    elim (none k short (ap is_line_end (sym (byte-front text n k short)) ∙ line)) [
      | inl q ↦ inl (ap (λ (xs : List ℕ). is_quoted (state_after st.StartRecord xs)) (take-take k n text (omega arith)) ∙ quoted-state (take k text) q)
      | inr all ↦ inr (λ j below. ap is_line_end (byte-front text n j (omega arith)) ∙ all j below)
    ])

-- one record stands in front of the first end of a line that ends one
pub one-front : (bytes : List ℕ) (at : ℕ) → IsFirstEnd (strip_bom bytes) at → length (records_of (take (length bytes - length (strip_bom bytes) + at) bytes)) ≡ 1
one-front bytes at first =
    let text = strip_bom bytes in
    let marked = text-marked bytes at first.end.within in
    let few = front-few text at (omega (arith, first.end.within)) first.first in
    let size = length-take at text in
    let j = first.begun.at in
    let one : length (all_from st.StartRecord [] [] (take at text)) ≡ 1 =
    few.begun j (omega (arith, size, first.begun.below, first.end.within)) (ap is_line_end (byte-front text at j first.begun.below) ∙ first.begun.other) in
    ap (λ (xs : List ℕ). length (records default_config xs)) marked.front ∙ (ap length (records-all (take at text)) ∙ one)

-- and at most one in a text that has no such place
pub few-whole : (bytes : List ℕ) → NoneBehind (strip_bom bytes) (length (strip_bom bytes)) → length (records_of bytes) ≤ 1
few-whole bytes none =
    let text = strip_bom bytes in
    let few = front-few text (length text) (omega arith) none in
    let same = take_all (length text) text (omega arith) in
    let records : length (records_of bytes) ≡ length (all_from st.StartRecord [] [] (take (length text) text)) = ap length (records-all text) ∙ ap (λ (xs : List ℕ). length (all_from st.StartRecord [] [] xs)) (sym same) in
    omega (arith, records, few.most)

-- ---- a byte more

-- no line ends there, or it stands between quotes, or only ends of lines stand before it
pub none-more : (text : List ℕ) (at : ℕ) → NoneBehind text at → (is_line_end (slice_index text at) ≡ true → (place_after place.Opens (take at text) ≡ place.Quoted) ⊎ AllEnd text at) → NoneBehind text (at + 1)
none-more text at none here = λ k lt line. elim (cases_lt k at) [
  | inl below ↦ none k below line
  | inr above ↦ let same : k ≡ at = omega arith in subst (λ n. (place_after place.Opens (take n text) ≡ place.Quoted) ⊎ AllEnd text n) (sym same) (here (subst (λ n. is_line_end (slice_index text n) ≡ true) same line))
]

pub all-more : (text : List ℕ) (at : ℕ) → AllEnd text at → is_line_end (slice_index text at) ≡ true → AllEnd text (at + 1)
all-more text at all here = λ k lt. elim (cases_lt k at) [
  | inl below ↦ all k below
  | inr above ↦ let same : k ≡ at = omega arith in subst (λ n. is_line_end (slice_index text n) ≡ true) (sym same) here
]
