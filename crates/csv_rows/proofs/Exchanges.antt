-- A text whose fields are parted by another byte than the comma has the records of the text in which the two are exchanged.
use Rattle.std.proofs.Common.{◌≡◌, ◌≢◌, ◌⊎◌, ◌<◌, ◌+◌, ◌∙◌, ℕ, zero, suc, true, false, List, [], ◌∷◌, Option, Some, None, length, map, refl, sym, ap, inl, inr, arith}
use Rattle.std.specs.Prelude.{◌==◌, ◌&&◌, option_map}
use Rattle.std.specs.Int.Bits.{bit_xor, xor_assoc, xor_self}
use Rattle.std.proofs.lemmas.Bool.{cases_Bool, eq-eqb, eqb-true}
use Rattle.std.proofs.lemmas.List.{length-map, map-append}
use Rattle.std.proofs.lemmas.Nat.{xor_comm}
use Rattle.csv.specs.Machine.{Read, ends_at_end, field_after, fields_after, is_end, next_record, step}
use Rattle.csv.specs.Reading.{default_config, records, records_from, records_next, strip_bom}
use Rattle.csv.specs.declared.parser.Action.{Action}
use Rattle.csv.specs.declared.parser.Action.TheVariants as act
use Rattle.csv.specs.declared.parser.State.{State}
use Rattle.csv.specs.declared.parser.State.TheVariants as st
use Rattle.csv_rows.specs.Readings.{IsSeparator, ReadsExchanged, as_read, cleaned, config_of, exchanged}
use Rattle.csv_rows.specs.Records.{records_of}
use Rattle.csv_rows.specs.declared.cleaning.Reading.{Reading}

not-same : (a b : ℕ) → a ≢ b → (a == b) ≡ false
not-same a b h = elim (cases_Bool (a == b)) [ inl e ↦ absurd (h (eqb-true a b e)) | inr e ↦ e ]

-- the exchange finds a comma where the separator was
is-comma : (sep c : ℕ) → (exchanged sep c == 44) ≡ (c == sep)
is-comma sep c = elim (cases_Bool (c == 44)) [
  | inl e ↦
      let is : c ≡ 44 = eqb-true c 44 e in
      elim (cases_Bool (sep == 44)) [
        | inl s ↦
            let same : c ≡ sep = is ∙ sym (eqb-true sep 44 s) in
            rw (e, s) (sym (eq-eqb c sep same))
        | inr s ↦
            let apart : (c == sep) ≡ false = not-same c sep (λ same. absurd (cc (eq-eqb sep 44 (sym same ∙ is), s))) in
            rw (e, s) (sym apart)
      ]
  | inr e ↦ elim (cases_Bool (c == sep)) [ inl f ↦ rw (e, f) refl | inr f ↦ rw (e, f) e ]
]

-- and leaves any other byte
is-other : (sep c k : ℕ) → (44 == k) ≡ false → (sep == k) ≡ false → (exchanged sep c == k) ≡ (c == k)
is-other sep c k comma other = elim (cases_Bool (c == 44)) [
  | inl e ↦
      let is : (c == k) ≡ false = ap (λ n. n == k) (eqb-true c 44 e) ∙ comma in
      rw (e, other) (sym is)
  | inr e ↦ elim (cases_Bool (c == sep)) [
    | inl f ↦
        let is : (c == k) ≡ false = ap (λ n. n == k) (eqb-true c sep f) ∙ other in
        rw (e, f, comma) (sym is)
    | inr f ↦ rw (e, f) refl
  ]
]

-- one exclusive or takes the comma to the separator and back
xor-comma : (sep : ℕ) → bit_xor 44 (bit_xor 44 sep) ≡ sep
xor-comma sep = sym (xor_assoc 44 44 sep)

xor-separator : (sep : ℕ) → bit_xor sep (bit_xor 44 sep) ≡ 44
xor-separator sep = ap (bit_xor sep) (xor_comm 44 sep) ∙ (sym (xor_assoc sep sep 44) ∙ ap (λ n. bit_xor n 44) (xor_self sep))

pub xor-exchanged : (sep c : ℕ) → (c ≡ 44) ⊎ ((c ≢ 44) × (c ≡ sep)) → bit_xor c (bit_xor 44 sep) ≡ exchanged sep c
xor-exchanged sep c (inl is) = rw is (xor-comma sep)
xor-exchanged sep c (inr h) = rw (not-same c 44 h.0, eq-eqb c sep h.1) (ap (λ n. bit_xor n (bit_xor 44 sep)) h.1 ∙ xor-separator sep)

-- done twice it changes nothing
pub twice : (sep c : ℕ) → exchanged sep (exchanged sep c) ≡ c
twice sep c = elim (cases_Bool (c == 44)) [
  | inl e ↦
      let is : c ≡ 44 = eqb-true c 44 e in
      elim (cases_Bool (sep == 44)) [
        | inl s ↦ rw (e, s) (eqb-true sep 44 s ∙ sym is)
        | inr s ↦
            let own : (sep == sep) ≡ true = eq-eqb sep sep refl in
            rw (e, s, own) (sym is)
      ]
  | inr e ↦ elim (cases_Bool (c == sep)) [
    | inl f ↦ rw (e, f) (sym (eqb-true c sep f))
    | inr f ↦
        let same : exchanged sep c ≡ c = rw (e, f) refl in
        ap (exchanged sep) same ∙ same
  ]
]

pub twice-all : (sep : ℕ) (xs : List ℕ) → map (exchanged sep) (map (exchanged sep) xs) ≡ xs
twice-all sep [] = refl
twice-all sep (x ∷ xs) = rw (twice sep x, twice-all sep xs) refl

-- a byte that the one machine takes as the other takes another byte
same-step : (sep c x : ℕ) (s : State) → (x == 44) ≡ (c == sep) → (x == 34) ≡ (c == 34) → (x == 13) ≡ (c == 13) → (x == 10) ≡ (c == 10)
    → step default_config s x ≡ step (config_of sep) s c
same-step sep c x st.StartRecord d q r l = rw (d, q, r, l) refl
same-step sep c x st.StartField d q r l = rw (d, q, r, l) refl
same-step sep c x st.InField d q r l = rw (d, r, l) refl
same-step sep c x st.InQuoted d q r l = rw q refl
same-step sep c x st.InEscape d q r l = refl
same-step sep c x st.AfterQuote d q r l = rw (d, q, r, l) refl
same-step sep c x st.InComment d q r l = rw l refl
same-step sep c x st.AfterCr d q r l = rw (d, q, r, l) refl

step-exchanged : (sep c : ℕ) (s : State) → IsSeparator sep → step default_config s (exchanged sep c) ≡ step (config_of sep) s c
step-exchanged sep c s is = same-step sep c (exchanged sep c) s (is-comma sep c) (is-other sep c 34 refl (not-same sep 34 is.no_quote))
    (is-other sep c 13 refl (not-same sep 13 is.no_return)) (is-other sep c 10 refl (not-same sep 10 is.no_feed))

-- what an action makes of the fields and of the field at hand
fields-exchanged : (sep : ℕ) (a : Action) (fields : List (List ℕ)) (field : List ℕ)
    → fields_after a (map (map (exchanged sep)) fields) (map (exchanged sep) field) ≡ map (map (exchanged sep)) (fields_after a fields field)
fields-exchanged sep act.EndField fields field = sym (map-append (map (exchanged sep)) fields (field ∷ []))
fields-exchanged sep act.Skip fields field = refl
fields-exchanged sep act.Copy fields field = refl
fields-exchanged sep act.EndRecord fields field = sym (map-append (map (exchanged sep)) fields (field ∷ []))

field-exchanged : (sep c : ℕ) (a : Action) (field : List ℕ) → field_after a (exchanged sep c) (map (exchanged sep) field) ≡ map (exchanged sep) (field_after a c field)
field-exchanged sep c act.Copy field = sym (map-append (exchanged sep) field (c ∷ []))
field-exchanged sep c act.EndField field = refl
field-exchanged sep c act.Skip field = refl
field-exchanged sep c act.EndRecord field = refl

-- a record that was read, in which the two are exchanged
abbrev onto : ℕ → Read → Read
onto sep p = (map (map (exchanged sep)) p.0, p.1, map (exchanged sep) p.2)

next-exchanged : (sep : ℕ) (s : State) (fields : List (List ℕ)) (field xs : List ℕ) → IsSeparator sep
    → next_record default_config s (map (map (exchanged sep)) fields) (map (exchanged sep) field) (map (exchanged sep) xs) ≡ option_map (onto sep) (next_record (config_of sep) s fields field xs)
unfolding next_record
next-exchanged sep s fields field [] is = elim (cases_Bool (ends_at_end s)) [
  | inl e ↦ rw (e, map-append (map (exchanged sep)) fields (field ∷ [])) refl
  | inr e ↦ rw e refl
]
next-exchanged sep s fields field (c ∷ rest) is =
    let same = step-exchanged sep c s is in
    let p = step (config_of sep) s c in
    let more = next-exchanged sep p.0 (fields_after p.1 fields field) (field_after p.1 c field) rest is in
    let first = fields-exchanged sep p.1 fields field in
    let last = field-exchanged sep c p.1 field in
    elim (cases_Bool (is_end p.1)) [
      | inl e ↦ rw (same, e, first) refl
      | inr e ↦ rw (same, e, first, last) more
    ]

-- so are all records
next-all : (sep n : ℕ) → ((s : State) (xs : List ℕ) → records_from default_config n s (map (exchanged sep) xs) ≡ map (map (map (exchanged sep))) (records_from (config_of sep) n s xs))
    → (found : Option Read) → records_next (records_from default_config n) (option_map (onto sep) found) ≡ map (map (map (exchanged sep))) (records_next (records_from (config_of sep) n) found)
next-all sep n h None = refl
next-all sep n h (Some p) = ap (λ rs. map (map (exchanged sep)) p.0 ∷ rs) (h p.1 p.2)

from-exchanged : (sep n : ℕ) (s : State) (xs : List ℕ) → IsSeparator sep
    → records_from default_config n s (map (exchanged sep) xs) ≡ map (map (map (exchanged sep))) (records_from (config_of sep) n s xs)
unfolding records_from
from-exchanged sep zero s xs is = refl
from-exchanged sep (suc n) s xs is =
    let first = next-exchanged sep s [] [] xs is in
    ap (records_next (records_from default_config n)) first ∙ next-all sep n (λ s xs. from-exchanged sep n s xs is) (next_record (config_of sep) s [] [] xs)

records-exchanged : (sep : ℕ) (xs : List ℕ) → IsSeparator sep → records default_config (map (exchanged sep) xs) ≡ map (map (map (exchanged sep))) (records (config_of sep) xs)
records-exchanged sep xs is = rw (length-map xs (exchanged sep)) (from-exchanged sep (length xs + 1) st.StartRecord xs is)

-- a byte order mark has neither of the two
far-byte : (sep c k : ℕ) → sep < 128 → 128 < k → (exchanged sep c == k) ≡ (c == k)
far-byte sep c k low high = is-other sep c k (not-same 44 k (λ same. absurd (omega (arith, high, same)))) (not-same sep k (λ same. absurd (omega (arith, low, high, same))))

strip-exchanged : (sep : ℕ) (xs : List ℕ) → sep < 128 → strip_bom (map (exchanged sep) xs) ≡ map (exchanged sep) (strip_bom xs)
unfolding strip_bom
strip-exchanged sep [] low = refl
strip-exchanged sep (a ∷ []) low = refl
strip-exchanged sep (a ∷ b ∷ []) low = refl
strip-exchanged sep (a ∷ b ∷ c ∷ rest) low =
    let first = far-byte sep a 239 low (omega arith) in
    let second = far-byte sep b 187 low (omega arith) in
    let third = far-byte sep c 191 low (omega arith) in
    elim (cases_Bool ((a == 239) && (b == 187) && (c == 191))) [
      | inl e ↦ rw (first, second, third, e) refl
      | inr e ↦ rw (first, second, third, e) refl
    ]

-- a field that is read as it was before the exchange
as-read-all : (reading : Reading) (fields : List (List ℕ)) → map (as_read reading) (map (map (exchanged reading.separator)) fields) ≡ map (cleaned reading) fields
as-read-all reading [] = refl
as-read-all reading (field ∷ rest) = rw (twice-all reading.separator field, as-read-all reading rest) refl

records-as-read : (reading : Reading) (records : List (List (List ℕ))) → map (map (as_read reading)) (map (map (map (exchanged reading.separator))) records) ≡ map (map (cleaned reading)) records
records-as-read reading [] = refl
records-as-read reading (one ∷ rest) = rw (as-read-all reading one, records-as-read reading rest) refl

pub reads-exchanged : ReadsExchanged
reads-exchanged reading bytes is =
    let sep = reading.separator in
    let strip = strip-exchanged sep bytes is.ascii in
    let whole : records_of (map (exchanged sep) bytes) ≡ map (map (map (exchanged sep))) (records (config_of sep) (strip_bom bytes)) = ap (records default_config) strip ∙ records-exchanged sep (strip_bom bytes) is in
    ap (map (map (as_read reading))) whole ∙ records-as-read reading (records (config_of sep) (strip_bom bytes))
