-- The records of a text that is cut at a seam are those of the two parts. For a line feed that is known of the store of
-- records; here the same is shown for a carriage return.
use Rattle.std.proofs.Common.{◌≡◌, ℕ, true, false, List, [], ◌∷◌, ◌++◌, refl, inl, inr, arith}
use Rattle.std.specs.Prelude.{◌==◌, ◌&&◌}
use Rattle.std.proofs.lemmas.Bool.{cases_Bool, eqb-true}
use Rattle.csv.specs.Machine.{field_after, fields_after, is_end, step}
use Rattle.csv.specs.Reading.{default_config, strip_bom}
use Rattle.csv.specs.declared.parser.State.{State}
use Rattle.csv.specs.declared.parser.State.TheVariants as st
use Rattle.csv_rows.specs.Records.{records_of}
use Rattle.csv_rows.specs.Cuts.{IsCut, is_quoted, state_after}
use Rattle.csv_rows.proofs.Compose.{IsSane, records-cut, step-steps}
use Rattle.csv_rows.proofs.Machine.{all_from, records-all}
use Rattle.row_windows.specs.Seams.{RecordsAddUp, is_line_end}

-- between records, a carriage return before changes nothing
after-return : (b : List ℕ) → all_from st.AfterCr [] [] b ≡ all_from st.StartRecord [] [] b
unfolding all_from
after-return [] = refl
after-return (c ∷ b) = elim (cases_Bool (c == 10)) [
  | inl e ↦ let is : c ≡ 10 = eqb-true c 10 e in rw is refl
  | inr e ↦ rw e refl
]

-- at a carriage return that is not between quotes, the record at hand ends there as at the end of the text
at-return : (s : State) (fields : List (List ℕ)) (field b : List ℕ) → IsSane s fields field → is_quoted s ≡ false
    → all_from s fields field (13 ∷ b) ≡ all_from s fields field [] ++ all_from st.StartRecord [] [] (13 ∷ b)
unfolding all_from
at-return st.StartRecord fields field b h q = rw (h.0, h.1) refl
at-return st.AfterCr fields field b h q = rw (h.0, h.1) refl
at-return st.StartField fields field b h q = rw (after-return b) refl
at-return st.InField fields field b h q = rw (after-return b) refl
at-return st.AfterQuote fields field b h q = rw (after-return b) refl
at-return st.InQuoted fields field b h q = cc
at-return st.InEscape fields field b h q = absurd h
at-return st.InComment fields field b h q = absurd h

all-return : (s : State) (fields : List (List ℕ)) (field a b : List ℕ) → IsSane s fields field → is_quoted (state_after s a) ≡ false
    → all_from s fields field (a ++ (13 ∷ b)) ≡ all_from s fields field a ++ all_from st.StartRecord [] [] (13 ∷ b)
unfolding all_from state_after
all-return s fields field [] b h q = at-return s fields field b h q
all-return s fields field (c ∷ a) b h q =
    let steps = step-steps s c fields field h in
    let ended = all-return (step default_config s c).0 [] [] a b steps.0 q in
    elim (cases_Bool (is_end (step default_config s c).1)) [
      | inl e ↦ rw (e, ended) refl
      | inr e ↦ rw e (all-return (step default_config s c).0 (fields_after (step default_config s c).1 fields field) (field_after (step default_config s c).1 c field) a b (steps.1 e) q)
    ]

pub strip-return : (a b : List ℕ) → strip_bom (a ++ (13 ∷ b)) ≡ strip_bom a ++ (13 ∷ b)
unfolding strip_bom
strip-return [] [] = refl
strip-return [] (x ∷ []) = refl
strip-return [] (x ∷ y ∷ b) = refl
strip-return (a ∷ []) [] = refl
strip-return (a ∷ []) (x ∷ b) = elim (cases_Bool (a == 239)) [ inl e ↦ rw e refl | inr e ↦ rw e refl ]
strip-return (a ∷ c ∷ []) b = elim (cases_Bool (a == 239)) [ inl e ↦ elim (cases_Bool (c == 187)) [ inl f ↦ rw (e, f) refl | inr f ↦ rw (e, f) refl ] | inr e ↦ rw e refl ]
strip-return (a ∷ c ∷ d ∷ rest) b = elim (cases_Bool ((a == 239) && (c == 187) && (d == 191))) [ inl e ↦ rw e refl | inr e ↦ rw e refl ]

records-return : (a b : List ℕ) → IsCut a → records_of (a ++ (13 ∷ b)) ≡ records_of a ++ records_of (13 ∷ b)
unfolding strip_bom
records-return a b cut =
    let whole = records-all (strip_bom (a ++ (13 ∷ b))) in
    let front = records-all (strip_bom a) in
    let back = records-all (strip_bom (13 ∷ b)) in
    rw (whole, front, back, strip-return a b, strip-return [] b) (all-return st.StartRecord [] [] (strip_bom a) b (refl, refl) cut)

-- the end of a line is a line feed or a carriage return
pub not-feed : (c : ℕ) → (c == 10) ≡ false → is_line_end c ≡ true → c ≡ 13
not-feed c apart h = eqb-true c 13 (rw apart at h)

pub records_add_up : RecordsAddUp
records_add_up front [] seam = absurd (omega (arith, seam.line.some))
records_add_up front (c ∷ back) seam = elim (cases_Bool (c == 10)) [
  | inl e ↦ let is : c ≡ 10 = eqb-true c 10 e in rw is (records-cut front back seam.whole)
  | inr e ↦ let is : c ≡ 13 = not-feed c e seam.line.is in rw is (records-return front back seam.whole)
]
