-- A table behind its header of numbers has their record, and then its own.
use Rattle.std.proofs.Common.{◌≡◌, ◌≢◌, ◌<◌, ◌≤◌, ◌+◌, ◌^◌, ◌∙◌, ◌∷◌, ◌++◌, [], Bool, ℕ, zero, suc, List, true, false, ap, arith, decimal, get_or, inl, inr, length, length-append, map, refl, sym, take}
use Rattle.std.specs.Prelude.{◌==◌, ◌&&◌, if◌then◌else◌, slice_index}
use Rattle.std.proofs.lemmas.Bool.{cases_Bool, eq-eqb, ne_eqb}
use Rattle.std.proofs.lemmas.Fmt.{decimal_digit}
use Rattle.std.proofs.lemmas.List.{length-map, length-take, map-append}
use Rattle.std.specs.Char.{is_ascii_digit}
use Rattle.std.specs.List.{flat_map, range_with_len}
use Rattle.csv.specs.Machine.{ends_at_end, field_after, fields_after, is_end, step}
use Rattle.csv.specs.Reading.{default_config, records, strip_bom}
use Rattle.csv.specs.declared.parser.Action.{Action}
use Rattle.csv.specs.declared.parser.Action.TheVariants as act
use Rattle.csv.specs.declared.parser.State.{State}
use Rattle.csv.specs.declared.parser.State.TheVariants as st
use Rattle.csv_rows.proofs.Exchanges.{reads-exchanged, twice-all}
use Rattle.csv_rows.proofs.Machine.{all_from, records-all}
use Rattle.csv_rows.specs.Readings.{IsSeparator, as_read, cleaned, exchanged, records_as, records_in}
use Rattle.csv_rows.specs.Records.{records_of}
use Rattle.csv_rows.specs.declared.cleaning.Reading.{Reading}
use Rattle.numbered_rows.specs.Law.{NumbersAreHeader, column_numbers}
use Rattle.numbered_rows.specs.Numbers.{header_text, headed, number_text, numbered, width_of}
use Rattle.numbered_rows.specs.declared.front.TheConstants.{FRONT}
use Rattle.numbered_rows.proofs.Heads.{cell, header-is, header-run, header-text, is-other, keeps, later, marked}

-- ---- how many fields a record has

fields-more : (a : Action) (fields : List (List ℕ)) (field : List ℕ) → length (fields_after a fields field) ≤ length fields + 1
fields-more act.EndField fields field = let size = length-append fields (field ∷ []) in omega (arith, size)
fields-more act.Skip fields field = omega arith
fields-more act.Copy fields field = omega arith
fields-more act.EndRecord fields field = let size = length-append fields (field ∷ []) in omega (arith, size)

-- no more than bytes, and one
few-fields : (s : State) (fields : List (List ℕ)) (field xs : List ℕ) → length (get_or (all_from s fields field xs) 0 []) ≤ length fields + length xs + 1
unfolding all_from
few-fields s fields field [] = elim (cases_Bool (ends_at_end s)) [
  | inl e ↦ let size = length-append fields (field ∷ []) in rw e (omega (arith, size))
  | inr e ↦ rw e (omega arith)
]
few-fields s fields field (c ∷ rest) =
    let p = step default_config s c in
    let first = fields-more p.1 fields field in
    let more = few-fields p.0 (fields_after p.1 fields field) (field_after p.1 c field) rest in
    elim (cases_Bool (is_end p.1)) [
      | inl e ↦ rw e (omega (arith, first))
      | inr e ↦ rw e (omega (arith, first, more))
    ]

strip-short : (xs : List ℕ) → length (strip_bom xs) ≤ length xs
unfolding strip_bom
strip-short [] = omega arith
strip-short (a ∷ []) = omega arith
strip-short (a ∷ b ∷ []) = omega arith
strip-short (a ∷ b ∷ c ∷ rest) = elim (cases_Bool ((a == 239) && (b == 187) && (c == 191))) [ inl e ↦ rw e (omega arith) | inr e ↦ rw e (omega arith) ]

few-columns : (sep : ℕ) (bytes : List ℕ) → width_of sep bytes ≤ length bytes + 1
few-columns sep bytes =
    let text = map (exchanged sep) bytes in
    let few = few-fields st.StartRecord [] [] (strip_bom text) in
    let all = records-all (strip_bom text) in
    let short = strip-short text in
    let same = length-map bytes (exchanged sep) in
    rw all (omega (arith, few, short, same))

-- ---- the mark at the front

-- a text that begins with another byte has none
strip-other : (xs : List ℕ) → (slice_index xs 0 == 239) ≡ false → strip_bom xs ≡ xs
unfolding strip_bom
strip-other [] is = refl
strip-other (a ∷ []) is = refl
strip-other (a ∷ b ∷ []) is = refl
strip-other (a ∷ b ∷ c ∷ rest) is = rw is refl

-- no byte of the mark is a comma or the separator
far-byte : (sep c k : ℕ) → sep < 128 → 128 < k → (exchanged sep c == k) ≡ (c == k)
far-byte sep c k low high = is-other sep c k (ne_eqb 44 k (λ same. omega (arith, high, same))) (ne_eqb sep k (λ same. omega (arith, low, high, same)))

strip-exchanged : (sep : ℕ) (xs : List ℕ) → sep < 128 → strip_bom (map (exchanged sep) xs) ≡ map (exchanged sep) (strip_bom xs)
unfolding strip_bom
strip-exchanged sep [] low = refl
strip-exchanged sep (a ∷ []) low = refl
strip-exchanged sep (a ∷ b ∷ []) low = refl
strip-exchanged sep (a ∷ b ∷ c ∷ rest) low =
    let first = far-byte sep a 239 low (omega arith) in
    let second = far-byte sep b 187 low (omega arith) in
    let third = far-byte sep c 191 low (omega arith) in
    elim (cases_Bool ((a == 239) && (b == 187) && (c == 191))) [
      | inl e ↦ rw (first, second, third, e) refl
      | inr e ↦ rw (first, second, third, e) refl
    ]

-- a header begins with a quote or with a 1
first-byte : (b : Bool) (sep : ℕ) (rest : List ℕ) → sep < 128 → (slice_index (map (exchanged sep) (marked b (49 ∷ [])) ++ rest) 0 == 239) ≡ false
first-byte true sep rest low = far-byte sep 34 239 low (omega arith)
first-byte false sep rest low = far-byte sep 49 239 low (omega arith)

header-first : (sep n : ℕ) (t : List ℕ) → sep < 128 → exchanged sep 13 ≡ 13 → (slice_index (map (exchanged sep) (header_text sep (suc n)) ++ t) 0 == 239) ≡ false
header-first sep n t low no_return =
    let more = flat_map (later sep) (range_with_len (0 + 1) n) in
    let one : decimal (0 + 1) ≡ 49 ∷ [] = decimal_digit 1 (omega arith) in
    ap (λ (h : List ℕ). slice_index (map (exchanged sep) h ++ t) 0 == 239) (header-is sep n)
    ∙ ap (λ (h : List ℕ). slice_index h 0 == 239) (header-text sep (number_text sep (0 + 1)) more t no_return)
    ∙ ap (λ (ds : List ℕ). slice_index (map (exchanged sep) (marked (is_ascii_digit sep) ds) ++ (map (exchanged sep) more ++ 13 ∷ t)) 0 == 239) one
    ∙ first-byte (is_ascii_digit sep) sep (map (exchanged sep) more ++ 13 ∷ t) low

-- ---- the records

records-behind : (sep n : ℕ) (bytes : List ℕ) → IsSeparator sep → suc n < 10 ^ 64
    → records_of (map (exchanged sep) (headed sep (suc n) bytes)) ≡ map (cell sep) (range_with_len 0 (suc n)) ∷ records_of (map (exchanged sep) bytes)
records-behind sep n bytes is small =
    let head = map (exchanged sep) (header_text sep (suc n)) in
    let text = map (exchanged sep) (strip_bom bytes) in
    let whole : map (exchanged sep) (headed sep (suc n) bytes) ≡ head ++ text = map-append (exchanged sep) (header_text sep (suc n)) (strip_bom bytes) in
    let no_quote : (sep == 34) ≡ false = ne_eqb sep 34 is.no_quote in
    let no_return : (13 == sep) ≡ false = ne_eqb 13 sep (λ same. is.no_return (sym same)) in
    ap records_of whole ∙ ap (records default_config) (strip-other (head ++ text) (header-first sep n text is.ascii (keeps sep 13 refl no_return))) ∙ records-all (head ++ text)
    ∙ header-run (is_ascii_digit sep) sep n text refl no_quote no_return small
    ∙ ap (λ (r : List (List (List ℕ))). map (cell sep) (range_with_len 0 (suc n)) ∷ r) (sym (records-all text) ∙ ap (records default_config) (sym (strip-exchanged sep bytes is.ascii)))

-- the numbers as they are read
numbers-read : (reading : Reading) (xs : List ℕ) → map (as_read reading) (map (cell reading.separator) xs) ≡ map (cleaned reading) (map (λ at. decimal (at + 1)) xs)
numbers-read reading [] = refl
numbers-read reading (x ∷ xs) = rw (twice-all reading.separator (decimal (x + 1)), numbers-read reading xs) refl

behind : (reading : Reading) (bytes : List ℕ) (width : ℕ) → IsSeparator reading.separator → 0 < width → width < 10 ^ 64
    → records_in reading (headed reading.separator width bytes) ≡ map (cleaned reading) (column_numbers width) ∷ records_in reading bytes
behind reading bytes zero is some small = absurd (omega (arith, some))
behind reading bytes (suc n) is some small =
    sym (reads-exchanged reading (headed reading.separator (suc n) bytes) is) ∙ ap (map (map (as_read reading))) (records-behind reading.separator n bytes is small)
    ∙ ap (λ (r : List (List ℕ)). r ∷ records_as reading (map (exchanged reading.separator) bytes)) (numbers-read reading (range_with_len 0 (suc n)))
    ∙ ap (λ (r : List (List (List ℕ))). map (cleaned reading) (column_numbers (suc n)) ∷ r) (reads-exchanged reading bytes is)

pub numbers-are-header : NumbersAreHeader
unfolding numbered
numbers-are-header reading bytes is some =
    let few = few-columns reading.separator (take FRONT bytes) in
    let short = length-take FRONT bytes in
    behind reading bytes (width_of reading.separator (take FRONT bytes)) is some (omega (arith, few, short))
