-- The records that were read of a text are all that csv states of it, or the first of those.
use Rattle.std.proofs.Common.{◌≡◌, ◌≤◌, ◌<◌, ◌+◌, ◌-◌, ℕ, suc, true, false, List, [], ◌∷◌, ◌++◌, Option, Some, None, length, append-nil, refl, subst, inl, inr, arith, length-append}
use Rattle.std.specs.Prelude.{◌==◌, ◌&&◌, if◌then◌else◌}
use Rattle.std.proofs.lemmas.Bool.{cases_Bool}
use Rattle.csv.specs.Machine.{Read, after_end, ends_at_end, ends_with, field_after, fields_after, in_field, is_byte, is_end, next_record, start_field, start_record, step}
use Rattle.csv.specs.Reading.{Reached, records, records_from}
use Rattle.csv.specs.declared.parser.Action.{Action}
use Rattle.csv.specs.declared.parser.Config.{Config}
use Rattle.csv.specs.declared.parser.State.{State}
use Rattle.csv.specs.declared.parser.State.TheVariants as st
use Rattle.csv.specs.declared.parser.Terminator.{Terminator}
use Rattle.csv.specs.declared.parser.Terminator.TheVariants as term

-- a step that ends a record leaves the machine between records
abbrev EndsBetween : State × Action → Type 0
EndsBetween p = is_end p.1 ≡ true → ends_at_end p.0 ≡ false

after_end-between : (t : Terminator) (c : ℕ) → ends_at_end (after_end t c) ≡ false
after_end-between term.CRLF c = elim (cases_Bool (c == 13)) [ inl e ↦ rw e refl | inr e ↦ rw e refl ]
after_end-between (term.Any t) c = refl

in_field-between : (cfg : Config) (c : ℕ) → EndsBetween (in_field cfg c)
in_field-between cfg c = elim (cases_Bool (c == cfg.delimiter)) [
  | inl e ↦ rw e (λ h. cc h)
  | inr e ↦ elim (cases_Bool (ends_with cfg.terminator c)) [ inl t ↦ rw (e, t) (λ h. after_end-between cfg.terminator c) | inr t ↦ rw (e, t) (λ h. cc h) ]
]

start_field-between : (cfg : Config) (c : ℕ) → EndsBetween (start_field cfg c)
start_field-between cfg c = elim (cases_Bool (cfg.quoting && (c == cfg.quote))) [ inl e ↦ rw e (λ h. cc h) | inr e ↦ rw e (in_field-between cfg c) ]

start_record-between : (cfg : Config) (c : ℕ) → EndsBetween (start_record cfg c)
start_record-between cfg c = elim (cases_Bool (ends_with cfg.terminator c)) [
  | inl e ↦ rw e (λ h. cc h)
  | inr e ↦ elim (cases_Bool (is_byte cfg.comment c)) [ inl t ↦ rw (e, t) (λ h. cc h) | inr t ↦ rw (e, t) (rw e at (start_field-between cfg c)) ]
]

step-between : (cfg : Config) (s : State) (c : ℕ) → EndsBetween (step cfg s c)
step-between cfg st.StartRecord c = start_record-between cfg c
step-between cfg st.StartField c = start_field-between cfg c
step-between cfg st.InField c = in_field-between cfg c
step-between cfg st.InQuoted c = elim (cases_Bool (cfg.quoting && (c == cfg.quote))) [
  | inl e ↦ rw e (λ h. cc h)
  | inr e ↦ elim (cases_Bool (cfg.quoting && is_byte cfg.escape c)) [ inl t ↦ rw (e, t) (λ h. cc h) | inr t ↦ rw (e, t) (λ h. cc h) ]
]
step-between cfg st.InEscape c = λ h. cc h
step-between cfg st.AfterQuote c = elim (cases_Bool (cfg.quoting && cfg.double_quote && (c == cfg.quote))) [ inl e ↦ rw e (λ h. cc h) | inr e ↦ rw e (in_field-between cfg c) ]
step-between cfg st.InComment c = elim (cases_Bool (c == 10)) [ inl e ↦ rw e (λ h. cc h) | inr e ↦ rw e (λ h. cc h) ]
step-between cfg st.AfterCr c = elim (cases_Bool (c == 10)) [ inl e ↦ rw e (λ h. cc h) | inr e ↦ rw e (start_record-between cfg c) ]

-- what a record leaves of a text: no more than there was, and the machine between records
abbrev Leaves : ℕ → Read → Type 0
Leaves size r = (length r.2 ≤ size) × (ends_at_end r.1 ≡ false)

-- a byte that ends the record, or the rest of it
leaves-after : (cfg : Config) (s : State) (c : ℕ) (fields : List (List ℕ)) (rest : List ℕ) (more : Option Read) (r : Read)
    → (if is_end (step cfg s c).1 then Some (fields, (step cfg s c).0, rest) else more) ≡ Some r → (more ≡ Some r → Leaves (length rest) r) → Leaves (length rest) r
leaves-after cfg s c fields rest more r = elim (cases_Bool (is_end (step cfg s c).1)) [
  | inl e ↦ rw e (λ h rec. let same : (fields, (step cfg s c).0, rest) ≡ r = cc h in subst (λ (q : Read). Leaves (length rest) q) same (omega arith, step-between cfg s c e))
  | inr e ↦ rw e (λ h rec. rec h)
]

next-leaves : (cfg : Config) (s : State) (fields : List (List ℕ)) (field xs : List ℕ) (r : Read) → next_record cfg s fields field xs ≡ Some r → Leaves (length xs) r
unfolding next_record
next-leaves cfg s fields field [] r = elim (cases_Bool (ends_at_end s)) [
  | inl e ↦ rw e (λ h. let same : (fields ++ (field ∷ []), st.StartRecord, []) ≡ r = cc h in subst (λ (q : Read). Leaves 0 q) same (omega arith, refl))
  | inr e ↦ rw e (λ h. cc h)
]
next-leaves cfg s fields field (c ∷ rest) r = λ h.
    let more = next-leaves cfg (step cfg s c).0 (fields_after (step cfg s c).1 fields field) (field_after (step cfg s c).1 c field) rest r in
    let left = leaves-after cfg s c _ rest _ r h more in
    (omega (arith, left.0), left.1)

-- between records, the next one takes a byte
next-takes : (cfg : Config) (s : State) (fields : List (List ℕ)) (field xs : List ℕ) (r : Read) → ends_at_end s ≡ false
    → next_record cfg s fields field xs ≡ Some r → (length r.2 < length xs) × (ends_at_end r.1 ≡ false)
unfolding next_record
next-takes cfg s fields field [] r between = rw between (λ h. cc h)
next-takes cfg s fields field (c ∷ rest) r between = λ h.
    let more = next-leaves cfg (step cfg s c).0 (fields_after (step cfg s c).1 fields field) (field_after (step cfg s c).1 c field) rest r in
    let left = leaves-after cfg s c _ rest _ r h more in
    (omega (arith, left.0), left.1)

-- each record takes a byte
reached-takes : (cfg : Config) (s s2 : State) (xs ys : List ℕ) (rows : List (List (List ℕ))) → ends_at_end s ≡ false → Reached cfg s xs rows s2 ys
    → length rows + length ys ≤ length xs
unfolding Reached
reached-takes cfg s s2 xs ys [] between h = rw h.1 (omega arith)
reached-takes cfg s s2 xs ys (r ∷ rows) between h =
    let first = next-takes cfg s [] [] xs h.0 between h.1 in
    let rest = reached-takes cfg h.0.1 s2 h.0.2 ys rows first.1 h.3 in
    omega (arith, first.0, rest)

-- the records that were read, and then those of what is left
reached-begins : (cfg : Config) (s s2 : State) (xs ys : List ℕ) (rows : List (List (List ℕ))) (more : ℕ) → Reached cfg s xs rows s2 ys
    → records_from cfg (length rows + more) s xs ≡ rows ++ records_from cfg more s2 ys
unfolding Reached records_from
reached-begins cfg s s2 xs ys [] more h =
    let same : 0 + more ≡ more = omega arith in
    rw (same, h.0, h.1) refl
reached-begins cfg s s2 xs ys (r ∷ rows) more h =
    let same : length (r ∷ rows) + more ≡ suc (length rows + more) = omega arith in
    rw (same, h.1, reached-begins cfg h.0.1 s2 h.0.2 ys rows more h.3, ← h.2) refl

-- the records that were read to the end of a text are all its records
pub read-all : (cfg : Config) (s2 : State) (xs ys : List ℕ) (rows : List (List (List ℕ))) → Reached cfg st.StartRecord xs rows s2 ys
    → next_record cfg s2 [] [] ys ≡ None → records cfg xs ≡ rows
unfolding records_from
read-all cfg s2 xs ys rows h end =
    let takes = reached-takes cfg st.StartRecord s2 xs ys rows refl h in
    let fuel : length xs + 1 ≡ length rows + suc (length xs - length rows) = omega (arith, takes) in
    rw (fuel, reached-begins cfg st.StartRecord s2 xs ys rows (suc (length xs - length rows)) h, end) (append-nil rows)

-- a text has the records that were read of it, and maybe more
pub read-some : (cfg : Config) (s2 : State) (xs ys : List ℕ) (rows : List (List (List ℕ))) → Reached cfg st.StartRecord xs rows s2 ys
    → length rows ≤ length (records cfg xs)
read-some cfg s2 xs ys rows h =
    let takes = reached-takes cfg st.StartRecord s2 xs ys rows refl h in
    let fuel : length xs + 1 ≡ length rows + suc (length xs - length rows) = omega (arith, takes) in
    let size = length-append rows (records_from cfg (suc (length xs - length rows)) s2 ys) in
    rw (fuel, reached-begins cfg st.StartRecord s2 xs ys rows (suc (length xs - length rows)) h) (omega (arith, size))
