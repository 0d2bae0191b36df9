-- csv's machine, over bytes of which none ends a field, and at the byte behind them.
use Rattle.std.proofs.Common.{◌≡◌, ◌<◌, ◌≤◌, ◌+◌, ◌∙◌, ◌++◌, ℕ, Bool, true, false, List, [], ◌∷◌, length, refl, sym, ap, inl, inr, arith, append_assoc, append-nil, length-append}
use Rattle.std.specs.Prelude.{◌==◌, if◌then◌else◌}
use Rattle.std.proofs.lemmas.Bool.{cases_Bool}
use Rattle.csv.specs.Machine.{ends_at_end, field_after, fields_after, in_field, is_end, start_field, start_record, step}
use Rattle.csv.specs.Reading.{default_config}
use Rattle.csv.specs.declared.parser.Action.{Action}
use Rattle.csv.specs.declared.parser.Action.TheVariants as act
use Rattle.csv.specs.declared.parser.State.{State}
use Rattle.csv.specs.declared.parser.State.TheVariants as st
use Rattle.csv_rows.specs.Cuts.{is_quoted, state_after}
use Rattle.csv_rows.proofs.Machine.{all_from}
use Rattle.found_rows.specs.Written.{EndsNoField, copied, ends_field}

-- ---- a byte that ends no field

same-fields : (a : Action) (s : State) (fields : List (List ℕ)) (field : List ℕ) (c : ℕ) (rest : List ℕ) → ends_field a ≡ false
    → (if is_end a then fields_after a fields field ∷ all_from s [] [] rest else all_from s (fields_after a fields field) (field_after a c field) rest) ≡ all_from s fields (field_after a c field) rest
same-fields act.Skip s fields field c rest h = refl
same-fields act.Copy s fields field c rest h = refl
same-fields act.EndField s fields field c rest h = absurd (cc h)
same-fields act.EndRecord s fields field c rest h = absurd (cc h)

one-more : (s : State) (fields : List (List ℕ)) (field : List ℕ) (c : ℕ) (rest : List ℕ) → ends_field (step default_config s c).1 ≡ false
    → all_from s fields field (c ∷ rest) ≡ all_from (step default_config s c).0 fields (field_after (step default_config s c).1 c field) rest
unfolding all_from
one-more s fields field c rest h = same-fields (step default_config s c).1 (step default_config s c).0 fields field c rest h

grown : (a : Action) (c : ℕ) (field : List ℕ) → ends_field a ≡ false → field_after a c field ≡ field ++ field_after a c []
grown act.Skip c field h = sym (append-nil field)
grown act.Copy c field h = refl
grown act.EndField c field h = absurd (cc h)
grown act.EndRecord c field h = absurd (cc h)

-- ---- bytes of which none does

pub all-run : (s : State) (fields : List (List ℕ)) (field x rest : List ℕ) → EndsNoField s x → all_from s fields field (x ++ rest) ≡ all_from (state_after s x) fields (field ++ copied s x) rest
unfolding EndsNoField copied state_after
all-run s fields field [] rest h = ap (λ (f : List ℕ). all_from s fields f rest) (sym (append-nil field))
all-run s fields field (c ∷ x) rest h =
    let a = (step default_config s c).1 in
    let t = (step default_config s c).0 in
    let more = all-run t fields (field_after a c field) x rest h.1 in
    let shape : field_after a c field ++ copied t x ≡ field ++ (field_after a c [] ++ copied t x) =
    ap (λ (f : List ℕ). f ++ copied t x) (grown a c field h.0) ∙ append_assoc field (field_after a c []) (copied t x) in
    one-more s fields field c (x ++ rest) h.0 ∙ more ∙ ap (λ (f : List ℕ). all_from (state_after t x) fields f rest) shape

pub stays-append : (s : State) (x y : List ℕ) → EndsNoField s x → EndsNoField (state_after s x) y → EndsNoField s (x ++ y)
unfolding EndsNoField state_after
stays-append s [] y h k = k
stays-append s (c ∷ x) y h k = (h.0, stays-append (step default_config s c).0 x y h.1 k)

pub copied-append : (s : State) (x y : List ℕ) → copied s (x ++ y) ≡ copied s x ++ copied (state_after s x) y
unfolding copied state_after
copied-append s [] y = refl
copied-append s (c ∷ x) y =
    ap (λ (f : List ℕ). field_after (step default_config s c).1 c [] ++ f) (copied-append (step default_config s c).0 x y)
    ∙ sym (append_assoc (field_after (step default_config s c).1 c []) (copied (step default_config s c).0 x) (copied (state_after (step default_config s c).0 x) y))

-- ---- the states in a field

abbrev pub is_within : State → Bool
is_within st.StartField = true
is_within st.InField = true
is_within st.InQuoted = true
is_within st.AfterQuote = true
is_within st.StartRecord = false
is_within st.InEscape = false
is_within st.InComment = false
is_within st.AfterCr = false

-- a step that ends no record stays within
abbrev StepsWithin : State × Action → Type 0
StepsWithin p = is_end p.1 ≡ false → is_within p.0 ≡ true

in_field-within : (c : ℕ) → StepsWithin (in_field default_config c)
in_field-within c = elim (cases_Bool (c == 44)) [
  | inl e ↦ rw e (λ h. refl)
  | inr e ↦ elim (cases_Bool (c == 13)) [
    | inl r ↦ rw (e, r) (λ h. absurd (cc h))
    | inr r ↦ elim (cases_Bool (c == 10)) [ inl l ↦ rw (e, r, l) (λ h. absurd (cc h)) | inr l ↦ rw (e, r, l) (λ h. refl) ]
  ]
]

start_field-within : (c : ℕ) → StepsWithin (start_field default_config c)
start_field-within c = elim (cases_Bool (c == 34)) [ inl q ↦ rw q (λ h. refl) | inr q ↦ rw q (in_field-within c) ]

quoted-within : (c : ℕ) → StepsWithin (step default_config st.InQuoted c)
quoted-within c = elim (cases_Bool (c == 34)) [ inl q ↦ rw q (λ h. refl) | inr q ↦ rw q (λ h. refl) ]

behind-within : (c : ℕ) → StepsWithin (step default_config st.AfterQuote c)
behind-within c = elim (cases_Bool (c == 34)) [ inl q ↦ rw q (λ h. refl) | inr q ↦ rw q (in_field-within c) ]

step-within : (s : State) (c : ℕ) → is_within s ≡ true → StepsWithin (step default_config s c)
step-within st.StartField c w = start_field-within c
step-within st.InField c w = in_field-within c
step-within st.InQuoted c w = quoted-within c
step-within st.AfterQuote c w = behind-within c
step-within st.StartRecord c w = absurd (cc w)
step-within st.InEscape c w = absurd (cc w)
step-within st.InComment c w = absurd (cc w)
step-within st.AfterCr c w = absurd (cc w)

no-end : (a : Action) → ends_field a ≡ false → is_end a ≡ false
no-end act.Skip h = refl
no-end act.Copy h = refl
no-end act.EndField h = refl
no-end act.EndRecord h = absurd (cc h)

pub stays-within : (s : State) (x : List ℕ) → is_within s ≡ true → EndsNoField s x → is_within (state_after s x) ≡ true
unfolding EndsNoField state_after
stays-within s [] w h = w
stays-within s (c ∷ x) w h = stays-within (step default_config s c).0 x (step-within s c w (no-end (step default_config s c).1 h.0)) h.1

-- ---- the byte behind a field

pub end-comma : (s : State) (fields : List (List ℕ)) (field rest : List ℕ) → is_within s ≡ true → is_quoted s ≡ false
    → all_from s fields field (44 ∷ rest) ≡ all_from st.StartField (fields ++ (field ∷ [])) [] rest
unfolding all_from
end-comma st.StartField fields field rest w q = refl
end-comma st.InField fields field rest w q = refl
end-comma st.AfterQuote fields field rest w q = refl
end-comma st.InQuoted fields field rest w q = absurd (cc q)
end-comma st.StartRecord fields field rest w q = absurd (cc w)
end-comma st.InEscape fields field rest w q = absurd (cc w)
end-comma st.InComment fields field rest w q = absurd (cc w)
end-comma st.AfterCr fields field rest w q = absurd (cc w)

pub end-line : (s : State) (fields : List (List ℕ)) (field rest : List ℕ) → is_within s ≡ true → is_quoted s ≡ false
    → all_from s fields field (10 ∷ rest) ≡ (fields ++ (field ∷ [])) ∷ all_from st.StartRecord [] [] rest
unfolding all_from
end-line st.StartField fields field rest w q = refl
end-line st.InField fields field rest w q = refl
end-line st.AfterQuote fields field rest w q = refl
end-line st.InQuoted fields field rest w q = absurd (cc q)
end-line st.StartRecord fields field rest w q = absurd (cc w)
end-line st.InEscape fields field rest w q = absurd (cc w)
end-line st.InComment fields field rest w q = absurd (cc w)
end-line st.AfterCr fields field rest w q = absurd (cc w)

pub end-text : (s : State) (fields : List (List ℕ)) (field : List ℕ) → is_within s ≡ true → all_from s fields field [] ≡ (fields ++ (field ∷ [])) ∷ []
unfolding all_from
end-text st.StartField fields field w = refl
end-text st.InField fields field w = refl
end-text st.AfterQuote fields field w = refl
end-text st.InQuoted fields field w = refl
end-text st.StartRecord fields field w = absurd (cc w)
end-text st.InEscape fields field w = absurd (cc w)
end-text st.InComment fields field w = absurd (cc w)
end-text st.AfterCr fields field w = absurd (cc w)

-- ---- a record that has begun has more fields than those that were found

pub record HasLonger (few : ℕ) (records : List (List (List ℕ))) : Type 0 where
  pub first : List (List ℕ)
  pub others : List (List (List ℕ))
  pub are : records ≡ first ∷ others
  pub longer : few < length first

fields-ended : (a : Action) (fields : List (List ℕ)) (field : List ℕ) → is_end a ≡ true → fields_after a fields field ≡ fields ++ (field ∷ [])
fields-ended act.EndRecord fields field h = refl
fields-ended act.EndField fields field h = refl
fields-ended act.Skip fields field h = absurd (cc h)
fields-ended act.Copy fields field h = absurd (cc h)

fields-kept : (a : Action) (fields : List (List ℕ)) (field : List ℕ) → length fields < length (fields_after a fields field) + 1
fields-kept act.Skip fields field = omega arith
fields-kept act.Copy fields field = omega arith
fields-kept act.EndField fields field = omega (arith, length-append fields (field ∷ []))
fields-kept act.EndRecord fields field = omega (arith, length-append fields (field ∷ []))

pub goes-on : (s : State) (fields : List (List ℕ)) (field xs : List ℕ) → is_within s ≡ true → HasLonger (length fields) (all_from s fields field xs)
unfolding all_from
goes-on s fields field [] w = record { first = fields ++ (field ∷ []); others = []; are = end-text s fields field w; longer = omega (arith, length-append fields (field ∷ [])) }
goes-on s fields field (c ∷ xs) w =
    let a = (step default_config s c).1 in
    let t = (step default_config s c).0 in
    elim (cases_Bool (is_end a)) [
      | inl e ↦ rw e (record { first = fields_after a fields field; others = all_from t [] [] xs; are = refl; longer = omega (arith, ap (length {A = List ℕ}) (fields-ended a fields field e), length-append fields (field ∷ [])) })
      | inr e ↦
          let more = goes-on t (fields_after a fields field) (field_after a c field) xs (step-within s c w e) in
          rw e (record { first = more.first; others = more.others; are = more.are; longer = omega (arith, more.longer, fields-kept a fields field) })
    ]

-- ---- how many records there are

-- a step that ends a record leaves the machine between records
abbrev EndsBetween : State × Action → Type 0
EndsBetween p = is_end p.1 ≡ true → ends_at_end p.0 ≡ false

in_field-between : (c : ℕ) → EndsBetween (in_field default_config c)
in_field-between c = elim (cases_Bool (c == 44)) [
  | inl e ↦ rw e (λ h. absurd (cc h))
  | inr e ↦ elim (cases_Bool (c == 13)) [
    | inl r ↦ rw (e, r) (λ h. refl)
    | inr r ↦ elim (cases_Bool (c == 10)) [ inl l ↦ rw (e, r, l) (λ h. refl) | inr l ↦ rw (e, r, l) (λ h. absurd (cc h)) ]
  ]
]

start_field-between : (c : ℕ) → EndsBetween (start_field default_config c)
start_field-between c = elim (cases_Bool (c == 34)) [ inl q ↦ rw q (λ h. absurd (cc h)) | inr q ↦ rw q (in_field-between c) ]

start_record-between : (c : ℕ) → EndsBetween (start_record default_config c)
start_record-between c = elim (cases_Bool (c == 13)) [
  | inl r ↦ rw r (λ h. absurd (cc h))
  | inr r ↦ elim (cases_Bool (c == 10)) [ inl l ↦ rw (r, l) (λ h. absurd (cc h)) | inr l ↦ rw (r, l) (rw (r, l) at (start_field-between c)) ]
]

step-between : (s : State) (c : ℕ) → EndsBetween (step default_config s c)
step-between st.StartRecord c = start_record-between c
step-between st.StartField c = start_field-between c
step-between st.InField c = in_field-between c
step-between st.InQuoted c = elim (cases_Bool (c == 34)) [ inl q ↦ rw q (λ h. absurd (cc h)) | inr q ↦ rw q (λ h. absurd (cc h)) ]
step-between st.InEscape c = λ h. absurd (cc h)
step-between st.AfterQuote c = elim (cases_Bool (c == 34)) [ inl q ↦ rw q (λ h. absurd (cc h)) | inr q ↦ rw q (in_field-between c) ]
step-between st.InComment c = elim (cases_Bool (c == 10)) [ inl l ↦ rw l (λ h. absurd (cc h)) | inr l ↦ rw l (λ h. absurd (cc h)) ]
step-between st.AfterCr c = elim (cases_Bool (c == 10)) [ inl l ↦ rw l (λ h. absurd (cc h)) | inr l ↦ rw l (rw l at (start_record-between c)) ]

one-or-none : (b : Bool) → (if b then 1 else 0) ≤ 1
one-or-none true = omega arith
one-or-none false = omega arith

-- each takes a byte, but for one that has begun
all-few : (s : State) (fields : List (List ℕ)) (field xs : List ℕ) → length (all_from s fields field xs) ≤ length xs + (if ends_at_end s then 1 else 0)
unfolding all_from
all-few s fields field [] = elim (cases_Bool (ends_at_end s)) [ inl e ↦ rw e (omega arith) | inr e ↦ rw e (omega arith) ]
all-few s fields field (c ∷ xs) =
    let a = (step default_config s c).1 in
    let t = (step default_config s c).0 in
    let ended = all-few t [] [] xs in
    let more = all-few t (fields_after a fields field) (field_after a c field) xs in
    let few = one-or-none (ends_at_end t) in
    elim (cases_Bool (is_end a)) [
      | inl e ↦ rw e (omega (arith, rw (step-between s c e) at ended))
      | inr e ↦ rw e (omega (arith, more, few))
    ]

pub few-records : (s : State) (fields : List (List ℕ)) (field xs : List ℕ) → ends_at_end s ≡ false → length (all_from s fields field xs) ≤ length xs
few-records s fields field xs between = omega (arith, rw between at (all-few s fields field xs))
