-- Texts that end outside quotes, one after another.
use Rattle.std.proofs.Common.{◌≡◌, ◌≢◌, ◌+◌, ◌++◌, ◌∙◌, inl, inr, ℕ, true, false, List, [], ◌∷◌, length, refl, ap, sym, arith, length-append}
use Rattle.std.specs.Prelude.{◌==◌}
use Rattle.std.proofs.lemmas.Bool.{cases_Bool, eqb-true}
use Rattle.csv.specs.Reading.{strip_bom}
use Rattle.csv.specs.declared.parser.State.TheVariants as st
use Rattle.csv_rows.specs.Cuts.{IsCut, ends_quoted, state_after}
use Rattle.csv_rows.specs.Places.{place_after}
use Rattle.csv_rows.specs.Records.{records_of}
use Rattle.csv_rows.specs.declared.place.Place.{Place}
use Rattle.csv_rows.specs.declared.place.Place.TheVariants as place
use Rattle.csv_rows.proofs.Compose.{strip-front}
use Rattle.csv_rows.proofs.Follows.{scan-cut, scan-follows}
use Rattle.csv_rows.proofs.Scans.{place-append}
use Rattle.row_windows.specs.Seams.{BeginsLine, is_line_end}
use Rattle.row_windows.proofs.Cuts.{place-quoted}
use Rattle.row_windows.proofs.Seams.{not-feed, records_add_up, strip-return}

-- what a scan and the machine of the crate csv know of the end of a text
pub outside : (xs : List ℕ) → ends_quoted xs ≡ false → place_after place.Opens xs ≢ place.Quoted
outside xs cut = λ quoted.
    let is = scan-follows st.StartRecord xs refl in
    let bad : true ≡ false = sym (place-quoted (state_after st.StartRecord xs) (is.1 ∙ quoted)) ∙ cut in
    cc bad

-- outside quotes, the end of a line is where a record may begin
pub after_line : (p : Place) (c : ℕ) (b : List ℕ) → p ≢ place.Quoted → is_line_end c ≡ true → place_after p (c ∷ b) ≡ place_after place.Opens (c ∷ b)
unfolding place_after
after_line place.Quoted c b apart line = absurd (apart refl)
after_line place.Opens c b apart line = refl
after_line place.Inside c b apart line = elim (cases_Bool (c == 34)) [
  | inl e ↦ let is : c ≡ 34 = eqb-true c 34 e in let bad = rw is at line in cc bad
  | inr e ↦ rw e refl
]

-- a byte order mark is at the front, or nowhere
strip_longer : (a b : List ℕ) → BeginsLine b → strip_bom (a ++ b) ≡ strip_bom a ++ b
strip_longer a [] line = absurd (omega (arith, line.some))
strip_longer a (c ∷ b) line = elim (cases_Bool (c == 10)) [
  | inl e ↦ let is : c ≡ 10 = eqb-true c 10 e in rw is (strip-front a b)
  | inr e ↦ rw (not-feed c e line.is) (strip-return a b)
]

pub no_mark : (b : List ℕ) → BeginsLine b → strip_bom b ≡ b
unfolding strip_bom
no_mark b line = strip_longer [] b line

-- two texts that end outside quotes, of which the second begins with the end of a line
pub cut_append : (a b : List ℕ) → IsCut a → BeginsLine b → IsCut b → IsCut (a ++ b)
cut_append a [] cut line more = absurd (omega (arith, line.some))
cut_append a (c ∷ b) cut line more =
    let front = place_after place.Opens (strip_bom a) in
    let back : place_after place.Opens (c ∷ b) ≢ place.Quoted = outside (c ∷ b) (ap ends_quoted (sym (no_mark (c ∷ b) line)) ∙ more) in
    let all : place_after place.Opens (strip_bom a ++ (c ∷ b)) ≡ place_after place.Opens (c ∷ b) = place-append place.Opens (strip_bom a) (c ∷ b) ∙ after_line front c b (outside (strip_bom a) cut) line.is in
    ap ends_quoted (strip_longer a (c ∷ b) line) ∙ scan-cut (strip_bom a ++ (c ∷ b)) (λ quoted. back (sym all ∙ quoted))

-- and the other way round: the second does if both do
pub cut_back : (a b : List ℕ) → IsCut a → BeginsLine b → IsCut (a ++ b) → IsCut b
cut_back a [] cut line whole = absurd (omega (arith, line.some))
cut_back a (c ∷ b) cut line whole =
    let front = place_after place.Opens (strip_bom a) in
    let all : place_after place.Opens (strip_bom a ++ (c ∷ b)) ≡ place_after place.Opens (c ∷ b) = place-append place.Opens (strip_bom a) (c ∷ b) ∙ after_line front c b (outside (strip_bom a) cut) line.is in
    let outer : place_after place.Opens (strip_bom a ++ (c ∷ b)) ≢ place.Quoted = outside (strip_bom a ++ (c ∷ b)) (ap ends_quoted (sym (strip_longer a (c ∷ b) line)) ∙ whole) in
    ap ends_quoted (no_mark (c ∷ b) line) ∙ scan-cut (c ∷ b) (λ quoted. outer (all ∙ quoted))

-- and the records of both
pub records_append : (a b : List ℕ) → IsCut a → BeginsLine b → length (records_of (a ++ b)) ≡ length (records_of a) + length (records_of b)
records_append a b cut line = ap length (records_add_up a b (record { whole = cut; line = line })) ∙ length-append (records_of a) (records_of b)
