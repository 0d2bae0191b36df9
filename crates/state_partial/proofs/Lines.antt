-- The line of a header: bytes begin with one such line only.
use Rattle.std.proofs.Common.{◌≡◌, ◌<◌, ◌+◌, ◌-◌, ◌++◌, ◌∙◌, ◌⊎◌, inl, inr, ℕ, Bool, true, false, List, [], ◌∷◌, ap, append-nil, arith, length, length-append, refl, slice_index, subst, sym, take}
use Rattle.std.specs.Prelude.{◌==◌}
use Rattle.std.proofs.lemmas.Bool.{cases_Bool, eqb-true}
use Rattle.std.proofs.lemmas.List.{drop_all, get_or-append-add}
use Rattle.csv.specs.Machine.{ends_at_end, field_after, fields_after, in_field, is_end, start_field, start_record, step}
use Rattle.csv.specs.Reading.{default_config, strip_bom}
use Rattle.csv.specs.declared.parser.Action.{Action}
use Rattle.csv.specs.declared.parser.State.{State}
use Rattle.csv.specs.declared.parser.State.TheVariants as st
use Rattle.csv_rows.specs.Cuts.{IsCut, state_after}
use Rattle.csv_rows.specs.Records.{records_of}
use Rattle.csv_rows.proofs.Compose.{strip-front}
use Rattle.csv_rows.proofs.Follows.{is_usual, scan-follows}
use Rattle.csv_rows.proofs.Machine.{all_from, records-all}
use Rattle.csv_rows.proofs.Scans.{split-at}
use Rattle.row_windows.specs.Seams.{BeginsLine, is_line_end}
use Rattle.row_windows.proofs.Seams.{not-feed, records_add_up, strip-return}
use Rattle.tile_source.specs.Begins.{EndsInRecord, IsLineEnd}

-- ---- a byte that ends no line is in a record

-- a step after which a record is at hand
abbrev IsAtHand : State × Action → Type 0
IsAtHand p = (is_end p.1 ≡ false) × (ends_at_end p.0 ≡ true)

apart : (c : ℕ) → is_line_end c ≡ false → ((c == 10) ≡ false) × ((c == 13) ≡ false)
apart c h = elim (cases_Bool (c == 10)) [ inl e ↦ let bad = rw e at h in cc bad | inr e ↦ (e, rw e at h) ]

in_field_is : (c : ℕ) → is_line_end c ≡ false → IsAtHand (in_field default_config c)
in_field_is c h =
    let no = apart c h in
    elim (cases_Bool (c == 44)) [ inl e ↦ rw e (refl, refl) | inr e ↦ rw (e, no.0, no.1) (refl, refl) ]

start_field_is : (c : ℕ) → is_line_end c ≡ false → IsAtHand (start_field default_config c)
start_field_is c h = elim (cases_Bool (c == 34)) [ inl e ↦ rw e (refl, refl) | inr e ↦ rw e (in_field_is c h) ]

start_record_is : (c : ℕ) → is_line_end c ≡ false → IsAtHand (start_record default_config c)
start_record_is c h =
    let no = apart c h in
    rw (no.0, no.1) (rw (no.0, no.1) at (start_field_is c h))

after_return_is : (c : ℕ) → is_line_end c ≡ false → IsAtHand (step default_config st.AfterCr c)
after_return_is c h =
    let no = apart c h in
    rw no.0 (rw no.0 at (start_record_is c h))

step_is : (s : State) (c : ℕ) → is_usual s ≡ true → is_line_end c ≡ false → IsAtHand (step default_config s c)
step_is st.StartRecord c u h = start_record_is c h
step_is st.StartField c u h = start_field_is c h
step_is st.InField c u h = in_field_is c h
step_is st.InQuoted c u h = elim (cases_Bool (c == 34)) [ inl e ↦ rw e (refl, refl) | inr e ↦ rw e (refl, refl) ]
step_is st.AfterQuote c u h = elim (cases_Bool (c == 34)) [ inl e ↦ rw e (refl, refl) | inr e ↦ rw e (in_field_is c h) ]
step_is st.AfterCr c u h = after_return_is c h
step_is st.InEscape c u h = cc u
step_is st.InComment c u h = cc u

step_usual : (s : State) (c : ℕ) → is_usual s ≡ true → is_usual (step default_config s c).0 ≡ true
unfolding state_after
step_usual s c u = (scan-follows s (c ∷ []) u).0

-- so bytes have a record if the last one ends no line
some_records : (s : State) (fields : List (List ℕ)) (field xs : List ℕ) (c : ℕ) → is_usual s ≡ true → is_line_end c ≡ false → 0 < length (all_from s fields field (xs ++ (c ∷ [])))
unfolding all_from
some_records s fields field [] c u h =
    let is = step_is s c u h in
    rw (is.0, is.1) (omega arith)
some_records s fields field (x ∷ xs) c u h =
    let later = some_records (step default_config s x).0 (fields_after (step default_config s x).1 fields field) (field_after (step default_config s x).1 x field) xs c (step_usual s x u) h in
    elim (cases_Bool (is_end (step default_config s x).1)) [ inl e ↦ rw e (omega arith) | inr e ↦ rw e later ]

strip_feed : (xs : List ℕ) → strip_bom (10 ∷ xs) ≡ 10 ∷ xs
unfolding strip_bom
strip_feed xs = strip-front [] xs

strip_return : (xs : List ℕ) → strip_bom (13 ∷ xs) ≡ 13 ∷ xs
unfolding strip_bom
strip_return xs = strip-return [] xs

strip_line : (xs : List ℕ) → BeginsLine xs → strip_bom xs ≡ xs
strip_line [] line = absurd (omega (arith, line.some))
strip_line (c ∷ xs) line = elim (cases_Bool (c == 10)) [
  | inl e ↦ let is : c ≡ 10 = eqb-true c 10 e in subst (λ (n : ℕ). strip_bom (n ∷ xs) ≡ n ∷ xs) (sym is) (strip_feed xs)
  | inr e ↦ let is : c ≡ 13 = not-feed c e line.is in subst (λ (n : ℕ). strip_bom (n ∷ xs) ≡ n ∷ xs) (sym is) (strip_return xs)
]

-- the last byte, and those before it
last_apart : (xs : List ℕ) → 0 < length xs → xs ≡ take (length xs - 1) xs ++ (slice_index xs (length xs - 1) ∷ [])
last_apart xs some =
    let k = length xs - 1 in
    split-at xs k (slice_index xs k) (omega (arith, some)) refl ∙ ap (λ (l : List ℕ). take k xs ++ (slice_index xs k ∷ l)) (drop_all (k + 1) xs (omega (arith, some)))

line_has_none : (xs : List ℕ) → BeginsLine xs → is_line_end (slice_index xs (length xs - 1)) ≡ false → 0 < length (records_of xs)
line_has_none xs line other =
    let k = length xs - 1 in
    let some = some_records st.StartRecord [] [] (take k xs) (slice_index xs k) refl other in
    let all : records_of xs ≡ all_from st.StartRecord [] [] (take k xs ++ (slice_index xs k ∷ [])) =
    records-all (strip_bom xs) ∙ ap (all_from st.StartRecord [] []) (strip_line xs line ∙ last_apart xs line.some) in
    omega (arith, some, ap length all)

-- ---- two fronts of one text

-- one of them is the longer one
abbrev AreFronts : List ℕ → List ℕ → List ℕ → List ℕ → Type 0
AreFronts a b p q = ((z : List ℕ) × (b ≡ a ++ z) × (p ≡ z ++ q)) ⊎ ((z : List ℕ) × (a ≡ b ++ z) × (q ≡ z ++ p))

longer_too : (c d : ℕ) (a b p q : List ℕ) → c ≡ d → AreFronts a b p q → AreFronts (c ∷ a) (d ∷ b) p q
longer_too c d a b p q same (inl is) = inl (is.0, ap (λ (l : List ℕ). d ∷ l) is.1 ∙ ap (λ (n : ℕ). n ∷ (a ++ is.0)) (sym same), is.2)
longer_too c d a b p q same (inr is) = inr (is.0, ap (λ (l : List ℕ). c ∷ l) is.1 ∙ ap (λ (n : ℕ). n ∷ (b ++ is.0)) same, is.2)

head_same : (c d : ℕ) (xs ys : List ℕ) → c ∷ xs ≡ d ∷ ys → c ≡ d
head_same c d xs ys e = cc

tail_same : (c d : ℕ) (xs ys : List ℕ) → c ∷ xs ≡ d ∷ ys → xs ≡ ys
tail_same c d xs ys e = cc

fronts : (a b p q : List ℕ) → a ++ p ≡ b ++ q → AreFronts a b p q
fronts [] b p q e = inl (b, refl, e)
fronts (c ∷ a) [] p q e = inr (c ∷ a, refl, sym e)
fronts (c ∷ a) (d ∷ b) p q e = longer_too c d a b p q (head_same c d (a ++ p) (b ++ q) e) (fronts a b p q (tail_same c d (a ++ p) (b ++ q) e))

-- a text that begins with the end of a line
line_begins : (e rest z q : List ℕ) → IsLineEnd e → e ++ rest ≡ z ++ q → 0 < length z → BeginsLine z
line_begins e rest [] q line same some = absurd (omega (arith, some))
line_begins e rest (c ∷ z) q (inl is) same some =
    let first : 10 ≡ c = head_same 10 c rest (z ++ q) (sym (ap (λ (l : List ℕ). l ++ rest) is) ∙ same) in
    record { some = omega arith; is = ap is_line_end (sym first) }
line_begins e rest (c ∷ z) q (inr is) same some =
    let first : 13 ≡ c = head_same 13 c (10 ∷ rest) (z ++ q) (sym (ap (λ (l : List ℕ). l ++ rest) is) ∙ same) in
    record { some = omega arith; is = ap is_line_end (sym first) }

-- a record that can be cut off, and ends so
pub record IsLine (bytes : List ℕ) : Type 0 where
  pub one : length (records_of bytes) ≡ 1
  pub whole : IsCut bytes
  pub last : EndsInRecord bytes

not_both : (b : Bool) → b ≡ true → b ≡ false → ⊥
not_both b e f = cc

-- nothing comes between two of them
none_between : (a z e rest q : List ℕ) → IsLine a → IsLine (a ++ z) → IsLineEnd e → e ++ rest ≡ z ++ q → z ≡ []
none_between a [] e rest q one other line same = refl
none_between a (c ∷ z) e rest q one other line same =
    let all = c ∷ z in
    let begins = line_begins e rest all q line same (omega arith) in
    let sum = records_add_up a all (record { whole = one.whole; line = begins }) in
    let size = length-append (records_of a) (records_of all) in
    let at : length (a ++ all) - 1 ≡ length a + (length all - 1) = omega (arith, length-append a all) in
    let last : is_line_end (slice_index all (length all - 1)) ≡ false =
    ap is_line_end (sym (get_or-append-add a all (length all - 1) 0) ∙ ap (slice_index (a ++ all)) (sym at)) ∙ other.last.last in
    let some = line_has_none all begins last in
    absurd (omega (arith, ap length sum, size, one.one, other.one, some))

rest_same : (e f x y : List ℕ) → IsLineEnd e → IsLineEnd f → e ++ x ≡ f ++ y → x ≡ y
rest_same e f x y (inl a) (inl b) same = tail_same 10 10 x y (sym (ap (λ (l : List ℕ). l ++ x) a) ∙ (same ∙ ap (λ (l : List ℕ). l ++ y) b))
rest_same e f x y (inl a) (inr b) same = let bad : 10 ≡ 13 = head_same 10 13 x (10 ∷ y) (sym (ap (λ (l : List ℕ). l ++ x) a) ∙ (same ∙ ap (λ (l : List ℕ). l ++ y) b)) in absurd (omega (arith, bad))
rest_same e f x y (inr a) (inl b) same = let bad : 13 ≡ 10 = head_same 13 10 (10 ∷ x) y (sym (ap (λ (l : List ℕ). l ++ x) a) ∙ (same ∙ ap (λ (l : List ℕ). l ++ y) b)) in absurd (omega (arith, bad))
rest_same e f x y (inr a) (inr b) same =
    tail_same 10 10 x y (tail_same 13 13 (10 ∷ x) (10 ∷ y) (sym (ap (λ (l : List ℕ). l ++ x) a) ∙ (same ∙ ap (λ (l : List ℕ). l ++ y) b)))

-- the line with which bytes begin, and what comes after its end
pub line_is : (a e x b f y : List ℕ) → IsLine a → IsLine b → IsLineEnd e → IsLineEnd f → a ++ (e ++ x) ≡ b ++ (f ++ y) → (a ≡ b) × (x ≡ y)
line_is a e x b f y one other line line' same = go (fronts a b (e ++ x) (f ++ y) same)
  where
    go : AreFronts a b (e ++ x) (f ++ y) → (a ≡ b) × (x ≡ y)
    go (inl is) =
        let none = none_between a is.0 e x (f ++ y) one (subst IsLine is.1 other) line is.2 in
        let ends : b ≡ a = is.1 ∙ (ap (λ (l : List ℕ). a ++ l) none ∙ append-nil a) in
        (sym ends, rest_same e f x y line line' (is.2 ∙ ap (λ (l : List ℕ). l ++ (f ++ y)) none))
    go (inr is) =
        let none = none_between b is.0 f y (e ++ x) other (subst IsLine is.1 one) line' is.2 in
        let ends : a ≡ b = is.1 ∙ (ap (λ (l : List ℕ). b ++ l) none ∙ append-nil b) in
        (ends, sym (rest_same f e y x line' line (is.2 ∙ ap (λ (l : List ℕ). l ++ (e ++ x)) none)))
