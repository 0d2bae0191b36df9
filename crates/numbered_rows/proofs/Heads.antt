-- How csv's machine reads a header of numbers, in the text in which the comma and the separator are exchanged.
use Rattle.std.proofs.Common.{◌≡◌, ◌≢◌, ◌<◌, ◌≤◌, ◌+◌, ◌*◌, ◌/◌, ◌%◌, ◌^◌, ◌∙◌, ◌∷◌, ◌++◌, [], Bool, ℕ, zero, suc, List, true, false, ap, append-nil, append_assoc, arith, decimal, inl, inr, length, length-append, map, refl, sym}
use Rattle.std.specs.Prelude.{◌==◌, ◌&&◌, if◌then◌else◌}
use Rattle.std.proofs.lemmas.Bool.{cases_Bool, eq-eqb, eqb-true, ne_eqb}
use Rattle.std.proofs.lemmas.Bool.Decides.{nat_tests}
use Rattle.std.proofs.lemmas.Fmt.{decimal_by_steps_wide}
use Rattle.std.proofs.lemmas.List.{map-append}
use Rattle.std.proofs.lemmas.List.Folds.{list_all-append}
use Rattle.std.specs.Char.{is_ascii_digit}
use Rattle.std.specs.List.{flat_map, list_all, range_with_len}
use Rattle.csv.specs.declared.parser.State.{State}
use Rattle.csv.specs.declared.parser.State.TheVariants as st
use Rattle.csv_rows.proofs.Machine.{all_from}
use Rattle.csv_rows.specs.Readings.{exchanged}
use Rattle.numbered_rows.specs.Numbers.{header_text, number_text}

-- ---- digits

-- one or more digits
pub record IsNumeral (ds : List ℕ) : Type 0 where
  pub some : 0 < length ds
  pub digits : list_all is_ascii_digit ds ≡ true

digit-is : (x : ℕ) → x < 10 → is_ascii_digit (48 + x) ≡ true
digit-is x small = grind (arith, nat_tests, small)

numeral-one : (n : ℕ) → n < 10 → IsNumeral ((48 + n) ∷ [])
numeral-one n small = let is = digit-is n small in record { some = omega arith; digits = rw is refl }

numeral-more : (n : ℕ) (ds : List ℕ) → 10 ≤ n → IsNumeral ds → IsNumeral (ds ++ (48 + n % 10) ∷ [])
numeral-more n ds big h =
    let low : n % 10 < 10 = omega arith in
    let last = digit-is (n % 10) low in
    let size = length-append ds ((48 + n % 10) ∷ []) in
    record { some = omega (arith, size); digits = list_all-append is_ascii_digit ds ((48 + n % 10) ∷ []) ∙ rw (h.digits, last) refl }

pub numeral : (n : ℕ) → n < 10 ^ 64 → IsNumeral (decimal n)
numeral n small = decimal_by_steps_wide (λ m ds. IsNumeral ds) numeral-one numeral-more n small

digit-far : (d k : ℕ) → is_ascii_digit d ≡ true → k < 48 → (d == k) ≡ false
digit-far d k is low = grind (arith, nat_tests, is, low)

first-of : (p q : Bool) → (p && q) ≡ true → p ≡ true
first-of true q h = refl
first-of false q h = cc h

second-of : (p q : Bool) → (p && q) ≡ true → q ≡ true
second-of true q h = h
second-of false q h = cc h

-- ---- the exchange

-- it leaves any other byte than the two
pub is-other : (sep c k : ℕ) → (44 == k) ≡ false → (sep == k) ≡ false → (exchanged sep c == k) ≡ (c == k)
is-other sep c k comma other = elim (cases_Bool (c == 44)) [
  | inl e ↦
      let is : (c == k) ≡ false = ap (λ n. n == k) (eqb-true c 44 e) ∙ comma in
      rw (e, other) (sym is)
  | inr e ↦ elim (cases_Bool (c == sep)) [
    | inl f ↦
        let is : (c == k) ≡ false = ap (λ n. n == k) (eqb-true c sep f) ∙ other in
        rw (e, f, comma) (sym is)
    | inr f ↦ rw (e, f) refl
  ]
]

pub keeps : (sep k : ℕ) → (k == 44) ≡ false → (k == sep) ≡ false → exchanged sep k ≡ k
keeps sep k comma other = rw (comma, other) refl

-- it makes a comma of the separator
to-comma : (sep : ℕ) → exchanged sep sep ≡ 44
to-comma sep = elim (cases_Bool (sep == 44)) [
  | inl e ↦ rw e (eqb-true sep 44 e)
  | inr e ↦ let own : (sep == sep) ≡ true = eq-eqb sep sep refl in rw (e, own) refl
]

-- and keeps digits, if the separator is none
digit-kept : (sep d : ℕ) → is_ascii_digit sep ≡ false → is_ascii_digit d ≡ true → exchanged sep d ≡ d
digit-kept sep d other is =
    let comma = digit-far d 44 is (omega arith) in
    let apart : (d == sep) ≡ false = ne_eqb d sep (λ same. true-false (sym is ∙ ap is_ascii_digit same ∙ other)) in
    keeps sep d comma apart
  where
    true-false : true ≡ false → ⊥
    true-false h = cc h

digits-kept : (sep : ℕ) (ds : List ℕ) → is_ascii_digit sep ≡ false → list_all is_ascii_digit ds ≡ true → map (exchanged sep) ds ≡ ds
digits-kept sep [] other all = refl
digits-kept sep (d ∷ ds) other all = rw (digit-kept sep d other (first-of (is_ascii_digit d) (list_all is_ascii_digit ds) all), digits-kept sep ds other (second-of (is_ascii_digit d) (list_all is_ascii_digit ds) all)) refl

-- ---- a number

-- the bytes of a number without quotes
plain-run : (ds : List ℕ) (fields : List (List ℕ)) (field t : List ℕ) → list_all is_ascii_digit ds ≡ true
    → all_from st.InField fields field (ds ++ t) ≡ all_from st.InField fields (field ++ ds) t
unfolding all_from
plain-run [] fields field t all = rw (append-nil field) refl
plain-run (d ∷ ds) fields field t all =
    let is = first-of (is_ascii_digit d) (list_all is_ascii_digit ds) all in
    let comma = digit-far d 44 is (omega arith) in
    let return = digit-far d 13 is (omega arith) in
    let feed = digit-far d 10 is (omega arith) in
    rw (comma, return, feed) (plain-run ds fields (field ++ d ∷ []) t (second-of (is_ascii_digit d) (list_all is_ascii_digit ds) all)
    ∙ ap (λ (f : List ℕ). all_from st.InField fields f t) (append_assoc field (d ∷ []) ds))

-- those of one between quotes, and the quote after them
quoted-run : (sep : ℕ) (ds : List ℕ) (fields : List (List ℕ)) (field t : List ℕ) → (sep == 34) ≡ false → list_all is_ascii_digit ds ≡ true
    → all_from st.InQuoted fields field (map (exchanged sep) ds ++ 34 ∷ t) ≡ all_from st.AfterQuote fields (field ++ map (exchanged sep) ds) t
unfolding all_from
quoted-run sep [] fields field t no_quote all = rw (append-nil field) refl
quoted-run sep (d ∷ ds) fields field t no_quote all =
    let is = first-of (is_ascii_digit d) (list_all is_ascii_digit ds) all in
    let quote : (exchanged sep d == 34) ≡ false = is-other sep d 34 refl no_quote ∙ digit-far d 34 is (omega arith) in
    rw quote (quoted-run sep ds fields (field ++ exchanged sep d ∷ []) t no_quote (second-of (is_ascii_digit d) (list_all is_ascii_digit ds) all)
    ∙ ap (λ (f : List ℕ). all_from st.AfterQuote fields f t) (append_assoc field (exchanged sep d ∷ []) (map (exchanged sep) ds)))

-- a number with quotes or without
abbrev pub marked : Bool → List ℕ → List ℕ
marked b ds = (if b then 34 ∷ [] else []) ++ (ds ++ (if b then 34 ∷ [] else []))

-- where a field begins: the first of a record, or a later one
abbrev pub start : Bool → State
start true = st.StartRecord
start false = st.StartField

-- and where it ends
abbrev pub done : Bool → State
done true = st.AfterQuote
done false = st.InField

from-quote : (first : Bool) (fields : List (List ℕ)) (t : List ℕ) → all_from (start first) fields [] (34 ∷ t) ≡ all_from st.InQuoted fields [] t
unfolding all_from
from-quote true fields t = refl
from-quote false fields t = refl

from-digit : (first : Bool) (d : ℕ) (fields : List (List ℕ)) (t : List ℕ) → is_ascii_digit d ≡ true → all_from (start first) fields [] (d ∷ t) ≡ all_from st.InField fields (d ∷ []) t
unfolding all_from
from-digit true d fields t is =
    let comma = digit-far d 44 is (omega arith) in
    let quote = digit-far d 34 is (omega arith) in
    let return = digit-far d 13 is (omega arith) in
    let feed = digit-far d 10 is (omega arith) in
    rw (comma, quote, return, feed) refl
from-digit false d fields t is =
    let comma = digit-far d 44 is (omega arith) in
    let quote = digit-far d 34 is (omega arith) in
    let return = digit-far d 13 is (omega arith) in
    let feed = digit-far d 10 is (omega arith) in
    rw (comma, quote, return, feed) refl

-- the digits of a number that has some
plain-field : (first : Bool) (ds : List ℕ) (fields : List (List ℕ)) (t : List ℕ) → 0 < length ds → list_all is_ascii_digit ds ≡ true
    → all_from (start first) fields [] (ds ++ t) ≡ all_from st.InField fields ds t
plain-field first [] fields t some all = absurd (omega (arith, some))
plain-field first (d ∷ ds) fields t some all =
    from-digit first d fields (ds ++ t) (first-of (is_ascii_digit d) (list_all is_ascii_digit ds) all)
    ∙ plain-run ds fields (d ∷ []) t (second-of (is_ascii_digit d) (list_all is_ascii_digit ds) all)

quoted-text : (sep : ℕ) (ds t : List ℕ) → (sep == 34) ≡ false → map (exchanged sep) (34 ∷ (ds ++ 34 ∷ [])) ++ t ≡ 34 ∷ (map (exchanged sep) ds ++ 34 ∷ t)
quoted-text sep ds t no_quote =
    let quote : exchanged sep 34 ≡ 34 = keeps sep 34 refl (other-way no_quote) in
    rw (quote, map-append (exchanged sep) ds (34 ∷ []), quote) (ap (λ (r : List ℕ). 34 ∷ r) (append_assoc (map (exchanged sep) ds) (34 ∷ []) t))
  where
    apart : false ≡ true → ⊥
    apart h = cc h

    other-way : (sep == 34) ≡ false → (34 == sep) ≡ false
    other-way h = ne_eqb 34 sep (λ same. apart (sym h ∙ eq-eqb sep 34 (sym same)))

pub number-run : (b first : Bool) (sep : ℕ) (ds : List ℕ) (fields : List (List ℕ)) (t : List ℕ) → is_ascii_digit sep ≡ b → (sep == 34) ≡ false → IsNumeral ds
    → all_from (start first) fields [] (map (exchanged sep) (marked b ds) ++ t) ≡ all_from (done b) fields (map (exchanged sep) ds) t
number-run true first sep ds fields t is no_quote h =
    ap (all_from (start first) fields []) (quoted-text sep ds t no_quote) ∙ from-quote first fields (map (exchanged sep) ds ++ 34 ∷ t) ∙ quoted-run sep ds fields [] t no_quote h.digits
number-run false first sep ds fields t is no_quote h =
    let kept = digits-kept sep ds is h.digits in
    ap (λ (r : List ℕ). all_from (start first) fields [] (map (exchanged sep) r ++ t)) (append-nil ds) ∙ ap (λ (r : List ℕ). all_from (start first) fields [] (r ++ t)) kept
    ∙ plain-field first ds fields t h.some h.digits ∙ ap (λ (r : List ℕ). all_from st.InField fields r t) (sym kept)

-- ---- a header

-- the comma after a field, and the return after the last one
comma-after : (b : Bool) (fields : List (List ℕ)) (field t : List ℕ) → all_from (done b) fields field (44 ∷ t) ≡ all_from st.StartField (fields ++ field ∷ []) [] t
unfolding all_from
comma-after true fields field t = refl
comma-after false fields field t = refl

return-after : (b : Bool) (fields : List (List ℕ)) (field t : List ℕ) → all_from (done b) fields field (13 ∷ t) ≡ (fields ++ field ∷ []) ∷ all_from st.AfterCr [] [] t
unfolding all_from
return-after true fields field t = refl
return-after false fields field t = refl

pub after-return : (t : List ℕ) → all_from st.AfterCr [] [] t ≡ all_from st.StartRecord [] [] t
unfolding all_from
after-return [] = refl
after-return (c ∷ t) = elim (cases_Bool (c == 10)) [
  | inl e ↦ let is : c ≡ 10 = eqb-true c 10 e in rw is refl
  | inr e ↦ rw e refl
]

-- a separator and the number of the column at a place
abbrev pub later : ℕ → ℕ → List ℕ
later sep at = (sep ∷ []) ++ number_text sep (at + 1)

-- the number of a column, as the text has it
abbrev pub cell : ℕ → ℕ → List ℕ
cell sep at = map (exchanged sep) (decimal (at + 1))

later-text : (sep at : ℕ) (xs t : List ℕ) → map (exchanged sep) (later sep at ++ xs) ++ t ≡ 44 ∷ (map (exchanged sep) (number_text sep (at + 1)) ++ (map (exchanged sep) xs ++ t))
later-text sep at xs t =
    rw (to-comma sep, map-append (exchanged sep) (number_text sep (at + 1)) xs) (ap (λ (r : List ℕ). 44 ∷ r) (append_assoc (map (exchanged sep) (number_text sep (at + 1))) (map (exchanged sep) xs) t))

later-run : (b : Bool) (sep a n : ℕ) (fields : List (List ℕ)) (field t : List ℕ) → is_ascii_digit sep ≡ b → (sep == 34) ≡ false → a + n < 10 ^ 64
    → all_from (done b) fields field (map (exchanged sep) (flat_map (later sep) (range_with_len a n)) ++ 13 ∷ t)
    ≡ (fields ++ field ∷ map (cell sep) (range_with_len a n)) ∷ all_from st.AfterCr [] [] t
later-run b sep a zero fields field t is no_quote small = return-after b fields field t
later-run b sep a (suc n) fields field t is no_quote small =
    let rest = flat_map (later sep) (range_with_len (a + 1) n) in
    let more = map (exchanged sep) rest ++ 13 ∷ t in
    let now : a + 1 < 10 ^ 64 = omega (arith, small) in
    let next : (a + 1) + n < 10 ^ 64 = omega (arith, small) in
    ap (all_from (done b) fields field) (later-text sep a rest (13 ∷ t)) ∙ comma-after b fields field (map (exchanged sep) (number_text sep (a + 1)) ++ more)
    ∙ ap (λ (k : Bool). all_from st.StartField (fields ++ field ∷ []) [] (map (exchanged sep) (marked k (decimal (a + 1))) ++ more)) is
    ∙ number-run b false sep (decimal (a + 1)) (fields ++ field ∷ []) more is no_quote (numeral (a + 1) now)
    ∙ later-run b sep (a + 1) n (fields ++ field ∷ []) (cell sep a) t is no_quote next
    ∙ ap (λ (r : List (List ℕ)). r ∷ all_from st.AfterCr [] [] t) (append_assoc fields (field ∷ []) (map (cell sep) (a ∷ range_with_len (a + 1) n)))

pub header-is : (sep n : ℕ) → header_text sep (suc n) ≡ (number_text sep (0 + 1) ++ flat_map (later sep) (range_with_len (0 + 1) n)) ++ 13 ∷ []
header-is sep n = ap (λ (k : Bool). if k then [] else (number_text sep (0 + 1) ++ flat_map (later sep) (range_with_len (0 + 1) n)) ++ 13 ∷ []) (ne_eqb (suc n) 0 (λ e. omega (arith, e)))

pub header-text : (sep : ℕ) (first rest t : List ℕ) → exchanged sep 13 ≡ 13 → map (exchanged sep) ((first ++ rest) ++ 13 ∷ []) ++ t ≡ map (exchanged sep) first ++ (map (exchanged sep) rest ++ 13 ∷ t)
header-text sep first rest t kept =
    rw (map-append (exchanged sep) (first ++ rest) (13 ∷ []), map-append (exchanged sep) first rest, kept)
    (append_assoc (map (exchanged sep) first ++ map (exchanged sep) rest) (13 ∷ []) t ∙ append_assoc (map (exchanged sep) first) (map (exchanged sep) rest) (13 ∷ t))

-- a header, and then the text
pub header-run : (b : Bool) (sep n : ℕ) (t : List ℕ) → is_ascii_digit sep ≡ b → (sep == 34) ≡ false → (13 == sep) ≡ false → suc n < 10 ^ 64
    → all_from st.StartRecord [] [] (map (exchanged sep) (header_text sep (suc n)) ++ t) ≡ map (cell sep) (range_with_len 0 (suc n)) ∷ all_from st.StartRecord [] [] t
header-run b sep n t is no_quote no_return small =
    let rest = flat_map (later sep) (range_with_len (0 + 1) n) in
    let more = map (exchanged sep) rest ++ 13 ∷ t in
    let one : 0 + 1 < 10 ^ 64 = omega (arith, small) in
    let next : (0 + 1) + n < 10 ^ 64 = omega (arith, small) in
    ap (λ (h : List ℕ). all_from st.StartRecord [] [] (map (exchanged sep) h ++ t)) (header-is sep n)
    ∙ ap (all_from st.StartRecord [] []) (header-text sep (number_text sep (0 + 1)) rest t (keeps sep 13 refl no_return))
    ∙ ap (λ (k : Bool). all_from st.StartRecord [] [] (map (exchanged sep) (marked k (decimal (0 + 1))) ++ more)) is
    ∙ number-run b true sep (decimal (0 + 1)) [] more is no_quote (numeral (0 + 1) one)
    ∙ later-run b sep (0 + 1) n [] (cell sep 0) t is no_quote next
    ∙ ap (λ (r : List (List (List ℕ))). (cell sep 0 ∷ map (cell sep) (range_with_len (0 + 1) n)) ∷ r) (after-return t)
