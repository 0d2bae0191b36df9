-- The records of a text, from a place on.
use Rattle.std.proofs.Common.{◌≡◌, ◌≢◌, ◌<◌, ◌≤◌, ◌+◌, ◌∙◌, ◌++◌, ℕ, false, List, [], ◌∷◌, drop, length, slice_index, refl, sym, ap, inl, inr, arith, append-nil}
use Rattle.std.specs.Prelude.{◌==◌}
use Rattle.std.proofs.lemmas.Bool.{cases_Bool, eqb-true}
use Rattle.std.proofs.lemmas.List.{drop_all, drop_more}
use Rattle.csv.specs.declared.parser.State.TheVariants as st
use Rattle.csv_rows.specs.Cuts.{state_after}
use Rattle.csv_rows.specs.Plain.{NoReturn}
use Rattle.csv_rows.proofs.Machine.{all_from, records-all}
use Rattle.found_rows.specs.Found.{BeginsWide, records_from}
use Rattle.found_rows.specs.Written.{IsWritten, between, read_as}
use Rattle.found_rows.proofs.Between.{parted, rest-between}
use Rattle.found_rows.proofs.Running.{all-run, end-comma, end-line, end-text, goes-on, stays-within}

-- what is left of a record whose first fields were found
abbrev pub rest_of : List ℕ → List (List ℕ) → ℕ → List (List (List ℕ))
rest_of text fields from = all_from st.StartField fields [] (drop from text)

not-eq : (c d : ℕ) → c ≢ d → (c == d) ≡ false
not-eq c d h = elim (cases_Bool (c == d)) [ inl e ↦ absurd (h (eqb-true c d e)) | inr e ↦ e ]

-- ---- before a record

start-same : (c : ℕ) (rest : List ℕ) → (c == 13) ≡ false → (c == 10) ≡ false → all_from st.StartRecord [] [] (c ∷ rest) ≡ all_from st.StartField [] [] (c ∷ rest)
unfolding all_from
start-same c rest r l = rw (r, l) refl

-- a record begins with a field
pub begins : (text : List ℕ) (from : ℕ) → NoReturn text → from < length text → slice_index text from ≢ 10 → records_from text from ≡ rest_of text [] from
begins text from lines low other =
    let c = slice_index text from in
    let rest = drop (from + 1) text in
    let here : drop from text ≡ c ∷ rest = drop_more text from 0 low in
    records-all (drop from text) ∙ ap (all_from st.StartRecord [] []) here
    ∙ start-same c rest (not-eq c 13 (lines from low)) (not-eq c 10 other) ∙ ap (all_from st.StartField [] []) (sym here)

line-skipped : (rest : List ℕ) → all_from st.StartRecord [] [] (10 ∷ rest) ≡ all_from st.StartRecord [] [] rest
unfolding all_from
line-skipped rest = refl

-- an empty line is no record
pub past-line : (text : List ℕ) (at : ℕ) → at < length text → slice_index text at ≡ 10 → records_from text (at + 1) ≡ records_from text at
past-line text at low is =
    let here : drop at text ≡ 10 ∷ drop (at + 1) text = drop_more text at 0 low ∙ ap (λ (c : ℕ). c ∷ drop (at + 1) text) is in
    records-all (drop (at + 1) text) ∙ sym (line-skipped (drop (at + 1) text)) ∙ ap (all_from st.StartRecord [] []) (sym here) ∙ sym (records-all (drop at text))

none-left : all_from st.StartRecord [] [] [] ≡ []
unfolding all_from
none-left = refl

-- no byte is no record
pub at-end : (text : List ℕ) (at : ℕ) → at ≡ length text → records_from text at ≡ []
at-end text at is = records-all (drop at text) ∙ ap (all_from st.StartRecord [] []) (drop_all at text (omega (arith, is))) ∙ none-left

-- ---- past a field

up-to : (text : List ℕ) (fields : List (List ℕ)) (from to c : ℕ) → IsWritten text from to → to < length text → slice_index text to ≡ c
    → rest_of text fields from ≡ all_from (state_after st.StartField (between from to text)) fields (read_as (between from to text)) (c ∷ drop (to + 1) text)
up-to text fields from to c w low is =
    ap (all_from st.StartField fields []) (parted text from to c w.low low is) ∙ all-run st.StartField fields [] (between from to text) (c ∷ drop (to + 1) text) w.stays

pub field-comma : (text : List ℕ) (fields : List (List ℕ)) (from to : ℕ) → IsWritten text from to → to < length text → slice_index text to ≡ 44
    → rest_of text fields from ≡ rest_of text (fields ++ (read_as (between from to text) ∷ [])) (to + 1)
field-comma text fields from to w low is =
    let x = between from to text in
    up-to text fields from to 44 w low is
    ∙ end-comma (state_after st.StartField x) fields (read_as x) (drop (to + 1) text) (stays-within st.StartField x refl w.stays) (w.outside low)

pub field-line : (text : List ℕ) (fields : List (List ℕ)) (from to : ℕ) → IsWritten text from to → to < length text → slice_index text to ≡ 10
    → rest_of text fields from ≡ (fields ++ (read_as (between from to text) ∷ [])) ∷ records_from text (to + 1)
field-line text fields from to w low is =
    let x = between from to text in
    up-to text fields from to 10 w low is
    ∙ end-line (state_after st.StartField x) fields (read_as x) (drop (to + 1) text) (stays-within st.StartField x refl w.stays) (w.outside low)
    ∙ ap (λ (rs : List (List (List ℕ))). (fields ++ (read_as x ∷ [])) ∷ rs) (sym (records-all (drop (to + 1) text)))

pub field-last : (text : List ℕ) (fields : List (List ℕ)) (from to : ℕ) → IsWritten text from to → to ≡ length text
    → rest_of text fields from ≡ (fields ++ (read_as (between from to text) ∷ [])) ∷ records_from text to
field-last text fields from to w is =
    let x = between from to text in
    let all : drop from text ≡ x ++ [] = rest-between text from ∙ ap (λ n. between from n text) (sym is) ∙ sym (append-nil x) in
    ap (all_from st.StartField fields []) all ∙ all-run st.StartField fields [] x [] w.stays
    ∙ end-text (state_after st.StartField x) fields (read_as x) (stays-within st.StartField x refl w.stays)
    ∙ ap (λ (rs : List (List (List ℕ))). (fields ++ (read_as x ∷ [])) ∷ rs) (sym (at-end text to is))

-- ---- a record of many fields

pub too-wide : (text : List ℕ) (start from : ℕ) (fields : List (List ℕ)) → records_from text start ≡ rest_of text fields from → 64 ≤ length fields → BeginsWide (records_from text start)
too-wide text start from fields is many =
    let more = goes-on st.StartField fields [] (drop from text) refl in
    record { first = more.first; others = more.others; are = is ∙ more.are; wide = omega (arith, more.longer, many) }
