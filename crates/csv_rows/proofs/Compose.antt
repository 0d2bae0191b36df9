-- The records of a table that is cut before a line feed are those of the two pieces.
use Rattle.std.proofs.Common.{◌≡◌, ℕ, false, List, [], ◌∷◌, ◌++◌, refl, inl, inr}
use Rattle.std.specs.Prelude.{◌==◌, ◌&&◌, ⊤}
use Rattle.std.proofs.lemmas.Bool.{cases_Bool}
use Rattle.csv.specs.Machine.{field_after, fields_after, in_field, is_end, start_field, start_record, step}
use Rattle.csv.specs.Reading.{default_config, strip_bom}
use Rattle.csv.specs.declared.parser.Action.{Action}
use Rattle.csv.specs.declared.parser.State.{State}
use Rattle.csv.specs.declared.parser.State.TheVariants as st
use Rattle.csv_rows.specs.Records.{records_of}
use Rattle.csv_rows.specs.Cuts.{IsCut, is_quoted, state_after}
use Rattle.csv_rows.proofs.Machine.{all_from, records-all}

-- between records nothing of one is at hand, and there are no comments and no escapes
abbrev pub IsSane : State → List (List ℕ) → List ℕ → Type 0
IsSane st.StartRecord fields field = (fields ≡ []) × (field ≡ [])
IsSane st.AfterCr fields field = (fields ≡ []) × (field ≡ [])
IsSane st.StartField fields field = ⊤
IsSane st.InField fields field = ⊤
IsSane st.InQuoted fields field = ⊤
IsSane st.AfterQuote fields field = ⊤
IsSane st.InEscape fields field = ⊥
IsSane st.InComment fields field = ⊥

-- what a step makes of a record at hand, where it ends none
abbrev pub Steps : State × Action → ℕ → List (List ℕ) → List ℕ → Type 0
Steps p c fields field = IsSane p.0 [] [] × (is_end p.1 ≡ false → IsSane p.0 (fields_after p.1 fields field) (field_after p.1 c field))

in_field-steps : (c : ℕ) (fields : List (List ℕ)) (field : List ℕ) → Steps (in_field default_config c) c fields field
in_field-steps c fields field = elim (cases_Bool (c == 44)) [
  | inl e ↦ rw e (tt, λ h. tt)
  | inr e ↦ elim (cases_Bool (c == 13)) [
    | inl r ↦ rw (e, r) ((refl, refl), λ h. cc h)
    | inr r ↦ elim (cases_Bool (c == 10)) [ inl l ↦ rw (e, r, l) ((refl, refl), λ h. cc h) | inr l ↦ rw (e, r, l) (tt, λ h. tt) ]
  ]
]

start_field-steps : (c : ℕ) (fields : List (List ℕ)) (field : List ℕ) → Steps (start_field default_config c) c fields field
start_field-steps c fields field = elim (cases_Bool (c == 34)) [ inl e ↦ rw e (tt, λ h. tt) | inr e ↦ rw e (in_field-steps c fields field) ]

start_record-steps : (c : ℕ) → Steps (start_record default_config c) c [] []
start_record-steps c = elim (cases_Bool (c == 13)) [
  | inl r ↦ rw r ((refl, refl), λ h. (refl, refl))
  | inr r ↦ elim (cases_Bool (c == 10)) [ inl l ↦ rw (r, l) ((refl, refl), λ h. (refl, refl)) | inr l ↦ rw (r, l) (rw (r, l) at (start_field-steps c [] [])) ]
]

pub step-steps : (s : State) (c : ℕ) (fields : List (List ℕ)) (field : List ℕ) → IsSane s fields field → Steps (step default_config s c) c fields field
step-steps st.StartRecord c fields field h = rw (h.0, h.1) (start_record-steps c)
step-steps st.StartField c fields field h = start_field-steps c fields field
step-steps st.InField c fields field h = in_field-steps c fields field
step-steps st.InQuoted c fields field h = elim (cases_Bool (c == 34)) [ inl e ↦ rw e (tt, λ h. tt) | inr e ↦ rw e (tt, λ h. tt) ]
step-steps st.AfterQuote c fields field h = elim (cases_Bool (c == 34)) [ inl e ↦ rw e (tt, λ h. tt) | inr e ↦ rw e (in_field-steps c fields field) ]
step-steps st.AfterCr c fields field h = elim (cases_Bool (c == 10)) [
  | inl e ↦ rw (h.0, h.1, e) ((refl, refl), λ h. (refl, refl))
  | inr e ↦ rw (h.0, h.1, e) (rw e at (start_record-steps c))
]
step-steps st.InEscape c fields field h = absurd h
step-steps st.InComment c fields field h = absurd h

-- at a line feed that is not between quotes, the record at hand ends there as at the end of the text
at-cut : (s : State) (fields : List (List ℕ)) (field b : List ℕ) → IsSane s fields field → is_quoted s ≡ false
    → all_from s fields field (10 ∷ b) ≡ all_from s fields field [] ++ all_from st.StartRecord [] [] (10 ∷ b)
unfolding all_from
at-cut st.StartRecord fields field b h q = rw (h.0, h.1) refl
at-cut st.AfterCr fields field b h q = rw (h.0, h.1) refl
at-cut st.StartField fields field b h q = refl
at-cut st.InField fields field b h q = refl
at-cut st.AfterQuote fields field b h q = refl
at-cut st.InQuoted fields field b h q = cc
at-cut st.InEscape fields field b h q = absurd h
at-cut st.InComment fields field b h q = absurd h

-- the records of a text that is cut there
pub all-cut : (s : State) (fields : List (List ℕ)) (field a b : List ℕ) → IsSane s fields field → is_quoted (state_after s a) ≡ false
    → all_from s fields field (a ++ (10 ∷ b)) ≡ all_from s fields field a ++ all_from st.StartRecord [] [] (10 ∷ b)
unfolding all_from state_after
all-cut s fields field [] b h q = at-cut s fields field b h q
all-cut s fields field (c ∷ a) b h q =
    let steps = step-steps s c fields field h in
    let ended = all-cut (step default_config s c).0 [] [] a b steps.0 q in
    elim (cases_Bool (is_end (step default_config s c).1)) [
      | inl e ↦ rw (e, ended) refl
      | inr e ↦ rw e (all-cut (step default_config s c).0 (fields_after (step default_config s c).1 fields field) (field_after (step default_config s c).1 c field) a b (steps.1 e) q)
    ]

-- the machine's run over two texts is its run over the second from the state after the first
pub state-append : (s : State) (a b : List ℕ) → state_after s (a ++ b) ≡ state_after (state_after s a) b
unfolding state_after
state-append s [] b = refl
state-append s (c ∷ a) b = state-append (step default_config s c).0 a b

-- a byte order mark is at the front of the first piece alone
pub strip-front : (a b : List ℕ) → strip_bom (a ++ (10 ∷ b)) ≡ strip_bom a ++ (10 ∷ b)
unfolding strip_bom
strip-front [] [] = refl
strip-front [] (x ∷ []) = refl
strip-front [] (x ∷ y ∷ b) = refl
strip-front (a ∷ []) [] = refl
strip-front (a ∷ []) (x ∷ b) = elim (cases_Bool (a == 239)) [ inl e ↦ rw e refl | inr e ↦ rw e refl ]
strip-front (a ∷ c ∷ []) b = elim (cases_Bool (a == 239)) [ inl e ↦ elim (cases_Bool (c == 187)) [ inl f ↦ rw (e, f) refl | inr f ↦ rw (e, f) refl ] | inr e ↦ rw e refl ]
strip-front (a ∷ c ∷ d ∷ rest) b = elim (cases_Bool ((a == 239) && (c == 187) && (d == 191))) [ inl e ↦ rw e refl | inr e ↦ rw e refl ]

-- the records of a table are those of its pieces
pub records-cut : (a b : List ℕ) → IsCut a → records_of (a ++ (10 ∷ b)) ≡ records_of a ++ records_of (10 ∷ b)
unfolding strip_bom
records-cut a b cut =
    let whole = records-all (strip_bom (a ++ (10 ∷ b))) in
    let front = records-all (strip_bom a) in
    let back = records-all (strip_bom (10 ∷ b)) in
    rw (whole, front, back, strip-front a b, strip-front [] b) (all-cut st.StartRecord [] [] (strip_bom a) b (refl, refl) cut)
