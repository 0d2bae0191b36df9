-- Texts that end outside quotes, and what a scan makes of the rest of one.
use Rattle.std.proofs.Common.{◌≡◌, ◌≢◌, ◌<◌, ◌≤◌, ◌+◌, ◌-◌, ◌++◌, ◌∙◌, inl, inr, ℕ, zero, suc, true, List, [], ◌∷◌, length, take, drop, refl, ap, sym, arith}
use Rattle.std.specs.Prelude.{◌==◌}
use Rattle.std.proofs.Math.Seq.{take-add}
use Rattle.std.proofs.lemmas.Bool.{cases_Bool, eqb-true}
use Rattle.std.proofs.lemmas.List.{get_or-drop, get_or-take, length-drop, length-take}
use Rattle.csv.specs.Machine.{field_after, fields_after, is_end, step}
use Rattle.csv.specs.Reading.{default_config, records}
use Rattle.csv.specs.declared.parser.State.{State}
use Rattle.csv.specs.declared.parser.State.TheVariants as st
use Rattle.csv_rows.specs.Cuts.{IsCut, ends_quoted, is_quoted, state_after}
use Rattle.csv_rows.specs.Places.{place_after}
use Rattle.csv_rows.specs.Records.{records_of}
use Rattle.csv_rows.specs.declared.place.Place.{Place}
use Rattle.csv_rows.specs.declared.place.Place.TheVariants as place
use Rattle.csv_rows.proofs.Follows.{scan-follows}
use Rattle.csv_rows.proofs.Machine.{all_from, records-all}
use Rattle.csv_rows.proofs.Scans.{past-all, place-append, place-none}
use Rattle.row_windows.specs.Seams.{BeginsLine, is_line_end}
use Rattle.row_windows.proofs.Cuts.{place-quoted}
use Rattle.row_windows.proofs.Seams.{not-feed}
use Rattle.text_lines.specs.Begins.{AllEndFrom, EndsBefore}
use Rattle.text_lines.proofs.Ends.{begins_front}
use Rattle.text_lines.proofs.Parts.{after_line, no_mark, outside}

-- ---- a text that begins with the end of a line

pub cut_outer : (xs : List ℕ) → BeginsLine xs → IsCut xs → place_after place.Opens xs ≢ place.Quoted
cut_outer xs line cut = outside xs (ap ends_quoted (sym (no_mark xs line)) ∙ cut)

-- a text that ends between quotes has a record
quoted_has : (s : State) (fields : List (List ℕ)) (field xs : List ℕ) → is_quoted (state_after s xs) ≡ true → 0 < length (all_from s fields field xs)
unfolding all_from state_after
quoted_has st.InQuoted fields field [] q = omega arith
quoted_has st.StartRecord fields field [] q = cc q
quoted_has st.StartField fields field [] q = cc q
quoted_has st.InField fields field [] q = cc q
quoted_has st.AfterQuote fields field [] q = cc q
quoted_has st.InEscape fields field [] q = cc q
quoted_has st.InComment fields field [] q = cc q
quoted_has st.AfterCr fields field [] q = cc q
quoted_has s fields field (c ∷ xs) q = elim (cases_Bool (is_end (step default_config s c).1)) [
  | inl e ↦ rw e (omega arith)
  | inr e ↦ rw e (quoted_has (step default_config s c).0 (fields_after (step default_config s c).1 fields field) (field_after (step default_config s c).1 c field) xs q)
]

pub none_outer : (xs : List ℕ) → BeginsLine xs → records_of xs ≡ [] → place_after place.Opens xs ≢ place.Quoted
none_outer xs line none = λ quoted.
    let is = scan-follows st.StartRecord xs refl in
    let some : 0 < length (all_from st.StartRecord [] [] xs) = quoted_has st.StartRecord [] [] xs (place-quoted (state_after st.StartRecord xs) (is.1 ∙ quoted)) in
    let all : all_from st.StartRecord [] [] xs ≡ [] = sym (records-all xs) ∙ (ap (records default_config) (sym (no_mark xs line)) ∙ none) in
    omega (arith, some, ap length all)

-- what comes before it is no matter, outside quotes
pub later_outer : (a b : List ℕ) → place_after place.Opens a ≢ place.Quoted → BeginsLine b → place_after place.Opens b ≢ place.Quoted → place_after place.Opens (a ++ b) ≢ place.Quoted
later_outer a [] outer line later = absurd (omega (arith, line.some))
later_outer a (c ∷ b) outer line later = λ quoted. later (sym (place-append place.Opens a (c ∷ b) ∙ after_line (place_after place.Opens a) c b outer line.is) ∙ quoted)

-- ---- ends of lines

one_end : (c : ℕ) → is_line_end c ≡ true → place_after place.Opens (c ∷ []) ≡ place.Opens
unfolding place_after
one_end c line = elim (cases_Bool (c == 10)) [
  | inl e ↦ let is : c ≡ 10 = eqb-true c 10 e in rw is refl
  | inr e ↦ let is : c ≡ 13 = not-feed c e line in rw is refl
]

some_ends : (c : ℕ) (xs : List ℕ) → is_line_end c ≡ true → AllEndFrom xs 0 (length xs) → place_after place.Opens (c ∷ xs) ≡ place.Opens
some_ends c [] line all = one_end c line
some_ends c (d ∷ xs) line all =
    place-append place.Opens (c ∷ []) (d ∷ xs)
    ∙ (ap (λ (q : Place). place_after q (d ∷ xs)) (one_end c line) ∙ some_ends d xs (all 0 (omega arith) (omega arith)) (λ k low high. all (suc k) (omega arith) (omega (arith, high))))

-- outside quotes, ends of lines come to where a record may begin
after_ends : (p : Place) (xs : List ℕ) → p ≢ place.Quoted → 0 < length xs → AllEndFrom xs 0 (length xs) → place_after p xs ≡ place.Opens
after_ends p [] outer some all = absurd (omega (arith, some))
after_ends p (c ∷ xs) outer some all =
    let line : is_line_end c ≡ true = all 0 (omega arith) (omega arith) in
    after_line p c xs outer line ∙ some_ends c xs line (λ k low high. all (suc k) (omega arith) (omega (arith, high)))

-- the bytes between two places
between_ends : (xs : List ℕ) (from to : ℕ) → from ≤ to → to ≤ length xs → AllEndFrom xs from to → AllEndFrom (take (to - from) (drop from xs)) 0 (length (take (to - from) (drop from xs)))
between_ends xs from to order within all = λ k _ low.
    let short : k < to - from = omega (arith, low, length-take (to - from) (drop from xs)) in
    ap is_line_end (get_or-take (to - from) (drop from xs) k 0 short ∙ get_or-drop from xs k 0) ∙ all (from + k) (omega arith) (omega (arith, short, order))

-- a record begins outside quotes, so its text ends outside them if the whole does
pub begun_outer : (xs : List ℕ) (before end at : ℕ) → BeginsLine xs → place_after place.Opens xs ≢ place.Quoted → EndsBefore xs before end → AllEndFrom xs end at → end < at → at ≤ length xs
    → place_after place.Opens (drop at xs) ≢ place.Quoted
begun_outer xs before end at line outer e all some within =
    let front = take end xs in
    let mid = take (at - end) (drop end xs) in
    let same : end + (at - end) ≡ at = omega (arith, some) in
    let size : 0 < length mid = omega (arith, length-take (at - end) (drop end xs), length-drop end xs, some, within) in
    let upto : place_after place.Opens (take at xs) ≡ place.Opens =
    ap (λ (n : ℕ). place_after place.Opens (take n xs)) (sym same) ∙ (ap (place_after place.Opens) (take-add end (at - end) xs)
    ∙ (place-append place.Opens front mid ∙ after_ends (place_after place.Opens front) mid (front_outer end e.whole) size (between_ends xs end at (omega (arith, some)) within all))) in
    λ quoted. outer (sym (past-all place.Opens xs at) ∙ (ap (λ (p : Place). place_after p (drop at xs)) upto ∙ quoted))
  where
    front_outer : (n : ℕ) → IsCut (take n xs) → place_after place.Opens (take n xs) ≢ place.Quoted
    front_outer zero cut = λ quoted. let bad : place.Opens ≡ place.Quoted = sym (place-none place.Opens) ∙ quoted in cc bad
    front_outer (suc n) cut = cut_outer (take (suc n) xs) (begins_front xs (suc n) (omega arith) line) cut
