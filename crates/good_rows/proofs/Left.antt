-- What is left of a text whose lines are left out.
use Rattle.std.proofs.Common.{◌≡◌, ◌≢◌, ◌<◌, ◌≤◌, ◌+◌, ◌-◌, ◌++◌, ◌∷◌, ◌∙◌, [], Bool, ℕ, List, true, false, ap, append-nil, append_assoc, arith, drop, inl, inr, length, length-append, map, refl, subst, sym, take}
use Rattle.std.specs.Prelude.{◌==◌, ◌&&◌, ◌||◌, if◌then◌else◌, slice_index}
use Rattle.std.specs.List.{list_all}
use Rattle.std.proofs.lemmas.Bool.{cases_Bool, cases_lt, eqb-true}
use Rattle.std.proofs.lemmas.List.{drop_more, get_or_append_left, map-append, take-append-le, take_all, take_more}
use Rattle.std.proofs.lemmas.List.Elements.{filter-append}
use Rattle.std.proofs.lemmas.List.Folds.{list_all-append}
use Rattle.csv_rows.specs.Cuts.{IsCut, ends_quoted}
use Rattle.csv_rows.specs.Places.{after_byte, place_after}
use Rattle.csv_rows.specs.Readings.{as_read, records_as}
use Rattle.csv_rows.specs.Records.{records_of}
use Rattle.csv_rows.specs.declared.cleaning.Reading.{Reading}
use Rattle.csv_rows.specs.declared.place.Place.{Place}
use Rattle.csv_rows.specs.declared.place.Place.TheVariants as place
use Rattle.csv_rows.proofs.Cleaned.{as-length}
use Rattle.csv_rows.proofs.Follows.{scan-cut}
use Rattle.csv_rows.proofs.Scans.{place-append}
use Rattle.par_model.specs.Plan.{Plan}
use Rattle.row_blocks.specs.Blocks.{Table}
use Rattle.row_windows.specs.Ends.{NoneBehind, NoneBelow}
use Rattle.row_windows.specs.Seams.{BeginsLine, is_line_end}
use Rattle.row_windows.proofs.InFront.{few-whole}
use Rattle.row_windows.proofs.Seams.{records_add_up}
use Rattle.text_lines.proofs.Ends.{only_ends}
use Rattle.text_lines.proofs.Parts.{after_line, no_mark}
use Rattle.good_rows.specs.Good.{good_rows, has_good, is_good}
use Rattle.good_rows.specs.Judging.{GoesOn}
use Rattle.good_rows.specs.Lines.{IsBegun, LeavesGoodRows, ends_here, left_of, line_left}

-- a text that is cut in front of the end of a line has the records of the two parts
pub as_add_up : (reading : Reading) (front back : List ℕ) → IsCut front → BeginsLine back → records_as reading (front ++ back) ≡ records_as reading front ++ records_as reading back
as_add_up reading front back cut line =
    ap (map (map (as_read reading))) (records_add_up front back (record { whole = cut; line = line })) ∙ map-append (map (as_read reading)) (records_of front) (records_of back)

-- a line ends in front of a byte
pub ends_cases : (p : Place) (c : ℕ) → ends_here p c ≡ true → (is_line_end c ≡ true) × (p ≢ place.Quoted)
ends_cases p c is = elim (cases_Bool (is_line_end c)) [
  | inl line ↦ (line, λ quoted. let bad : false ≡ true = sym (rw (line, quoted) refl) ∙ is in cc bad)
  | inr other ↦ let bad : false ≡ true = sym (rw other refl) ∙ is in cc bad
]

-- or it does not
pub goes_cases : (p : Place) (c : ℕ) → ends_here p c ≡ false → is_line_end c ≡ true → p ≡ place.Quoted
goes_cases place.Quoted c is line = refl
goes_cases place.Opens c is line = let bad = rw line at is in cc bad
goes_cases place.Inside c is line = let bad = rw line at is in cc bad

-- the end of a line at which a line begins
pub begins_one : (c : ℕ) (more : List ℕ) → is_line_end c ≡ true → BeginsLine (c ∷ more)
begins_one c more line = record { some = omega arith; is = line }

-- ---- a text that begins with the end of a line

-- outside quotes, it is cut at its end
begun_cut : (line : List ℕ) (p : Place) → BeginsLine line → p ≡ place_after place.Opens line → p ≢ place.Quoted → IsCut line
begun_cut line p begins is apart = ap ends_quoted (no_mark line begins) ∙ scan-cut line (λ quoted. apart (is ∙ quoted))

-- after the first byte each end of a line is between quotes
behind_first : (line : List ℕ) (n : ℕ) → NoneBelow line n → NoneBehind line n
behind_first line n none = λ at below is. elim (cases_lt 0 at) [
  | inl some ↦ inl (none at some below is)
  | inr first ↦ inr (λ k low. absurd (omega (arith, first, low)))
]

-- it has one record at most, if it is one line
pub begun_few : (line : List ℕ) (p : Place) → IsBegun line p → length (records_of line) ≤ 1
begun_few line p b = few-whole line (subst (λ (t : List ℕ). NoneBehind t (length t)) (sym (no_mark line b.begins)) (behind_first line (length line) b.one))

-- the end of a line has no record
only_end : (c : ℕ) → is_line_end c ≡ true → records_of (c ∷ []) ≡ []
only_end c line = only_ends (c ∷ []) (begins_one c [] line) (λ at low high. let first : at ≡ 0 = omega (arith, high) in subst (λ (n : ℕ). is_line_end (slice_index (c ∷ []) n) ≡ true) (sym first) line)

only_end_as : (reading : Reading) (c : ℕ) → is_line_end c ≡ true → records_as reading (c ∷ []) ≡ []
only_end_as reading c line = ap (map (map (as_read reading))) (only_end c line)

-- ---- one line more, and one byte more

-- a line of one byte
pub begun_one : (p : Place) (c : ℕ) → is_line_end c ≡ true → p ≢ place.Quoted → IsBegun (c ∷ []) (place_after p (c ∷ []))
begun_one p c line apart = record {
  begins = begins_one c [] line;
  one = λ at some low is. absurd (omega (arith, some, low));
  place = after_line p c [] apart line;
}

none_longer : (line more : List ℕ) → NoneBelow line (length line) → NoneBelow (line ++ more) (length line)
none_longer line more none = λ at some low is.
    ap (place_after place.Opens) (take-append-le at line more (omega (arith, low))) ∙ none at some low (ap is_line_end (sym (get_or_append_left line more 0 at low)) ∙ is)

at_end : (line : List ℕ) (c : ℕ) → slice_index (line ++ c ∷ []) (length line) ≡ c
at_end [] c = refl
at_end (x ∷ line) c = at_end line c

begins_longer : (line more : List ℕ) → BeginsLine line → BeginsLine (line ++ more)
begins_longer [] more begins = absurd (omega (arith, begins.some))
begins_longer (x ∷ line) more begins = record { some = omega arith; is = begins.is }

-- a line that goes on
pub begun_more : (line : List ℕ) (p : Place) (c : ℕ) → IsBegun line p → ends_here p c ≡ false → IsBegun (line ++ c ∷ []) (place_after p (c ∷ []))
begun_more line p c b goes = record {
  begins = begins_longer line (c ∷ []) b.begins;
  one =
      let size : length (line ++ c ∷ []) ≡ length line + 1 = length-append line (c ∷ []) in
      let same = take-append-le (length line) line (c ∷ []) (omega arith) ∙ take_all (length line) line (omega arith) in
      λ at some low is. elim (cases_lt at (length line)) [
        | inl below ↦ none_longer line (c ∷ []) b.one at some below is
        | inr above ↦
            let last : at ≡ length line = omega (arith, above, low, size) in
            ap (λ (k : ℕ). place_after place.Opens (take k (line ++ c ∷ []))) last ∙ ap (place_after place.Opens) same
            ∙ (sym b.place ∙ goes_cases p c goes (ap is_line_end (sym (at_end line c) ∙ ap (slice_index (line ++ c ∷ [])) (sym last)) ∙ is))
      ];
  place = ap (λ (q : Place). place_after q (c ∷ [])) b.place ∙ sym (place-append place.Opens line (c ∷ []));
}

-- ---- what is left begins as the line does

left_begins_line : (keeps : List ℕ → Bool) (c : ℕ) (line : List ℕ) → (more : List ℕ) × (line_left keeps (c ∷ line) ≡ c ∷ more)
left_begins_line keeps c line = elim (cases_Bool (keeps (c ∷ line))) [
  | inl kept ↦ (line, ap (λ (b : Bool). if b then c ∷ line else c ∷ []) kept)
  | inr out ↦ ([], ap (λ (b : Bool). if b then c ∷ line else c ∷ []) out)
]

left_begins : (keeps : List ℕ → Bool) (c : ℕ) (line rest : List ℕ) (p : Place) → (more : List ℕ) × (left_of keeps p (c ∷ line) rest ≡ c ∷ more)
unfolding left_of
left_begins keeps c line [] p = left_begins_line keeps c line
left_begins keeps c line (d ∷ rest) p = elim (cases_Bool (ends_here p d)) [
  | inl ends ↦
      let front = left_begins_line keeps c line in
      let back = left_of keeps (place_after p (d ∷ [])) (d ∷ []) rest in
      (front.0 ++ back, rw ends (ap (λ (t : List ℕ). t ++ back) front.1))
  | inr goes ↦ let later = left_begins keeps c (line ++ d ∷ []) rest (place_after p (d ∷ [])) in (later.0, rw goes later.1)
]

-- after the end of a line a scan is outside quotes
byte_open : (c : ℕ) → after_byte c ≢ place.Quoted
byte_open c = λ quoted. elim (cases_Bool ((c == 44) || (c == 13) || (c == 10))) [
  | inl e ↦ let bad = rw e at quoted in cc bad
  | inr e ↦ let bad = rw e at quoted in cc bad
]

line_open : (c : ℕ) → is_line_end c ≡ true → place_after place.Opens (c ∷ []) ≢ place.Quoted
unfolding place_after
line_open c is = λ quoted. elim (cases_Bool (c == 34)) [
  | inl e ↦ let same : c ≡ 34 = eqb-true c 34 e in let bad = rw same at is in cc bad
  | inr e ↦ byte_open c (rw e at quoted)
]

-- ---- the records

module _ (reading : Reading) (plan : Plan) (width : ℕ) where
  abbrev keeps : List ℕ → Bool
  keeps = has_good reading plan width

  abbrev good : Table → Table
  good = good_rows plan width

  -- of one row at most
  few_good : (rows : Table) → length rows ≤ 1 → good rows ≡ (if list_all (is_good plan width) rows then rows else [])
  few_good [] few = refl
  few_good (x ∷ []) few = elim (cases_Bool (is_good plan width x)) [
    | inl is ↦ rw is refl
    | inr is ↦ rw is refl
  ]
  few_good (x ∷ y ∷ rows) few = absurd (omega (arith, few))

  -- of one line
  line_good : (line : List ℕ) (p : Place) → IsBegun line p → records_as reading (line_left keeps line) ≡ good (records_as reading line)
  line_good [] p b = absurd (omega (arith, b.begins.some))
  line_good (c ∷ line) p b =
      let rows = records_as reading (c ∷ line) in
      let few : length rows ≤ 1 = omega (arith, begun_few (c ∷ line) p b, as-length reading (c ∷ line)) in
      elim (cases_Bool (keeps (c ∷ line))) [
        | inl kept ↦ ap (λ (b : Bool). records_as reading (if b then c ∷ line else c ∷ [])) kept ∙ sym (few_good rows few ∙ ap (λ (b : Bool). if b then rows else []) kept)
        | inr out ↦ ap (λ (b : Bool). records_as reading (if b then c ∷ line else c ∷ [])) out ∙ only_end_as reading c b.begins.is ∙ sym (few_good rows few ∙ ap (λ (b : Bool). if b then rows else []) out)
      ]

  -- what is left of one line is cut at its end too
  line_cut : (line : List ℕ) (p : Place) → IsBegun line p → p ≢ place.Quoted → IsCut (line_left keeps line)
  line_cut [] p b apart = absurd (omega (arith, b.begins.some))
  line_cut (c ∷ line) p b apart = elim (cases_Bool (keeps (c ∷ line))) [
    | inl kept ↦ subst IsCut (sym (ap (λ (b : Bool). if b then c ∷ line else c ∷ []) kept)) (begun_cut (c ∷ line) p b.begins b.place apart)
    | inr out ↦
        let one = begun_one place.Opens c b.begins.is (λ e. cc e) in
        subst IsCut (sym (ap (λ (b : Bool). if b then c ∷ line else c ∷ []) out)) (begun_cut (c ∷ []) (place_after place.Opens (c ∷ [])) one.begins one.place (line_open c b.begins.is))
  ]

  pub rows_left : (line rest : List ℕ) (p : Place) → IsBegun line p → records_as reading (left_of keeps p line rest) ≡ good (records_as reading (line ++ rest))
  unfolding left_of
  rows_left line [] p b = line_good line p b ∙ ap (λ (t : List ℕ). good (records_as reading t)) (sym (append-nil line))
  rows_left line (c ∷ rest) p b = elim (cases_Bool (ends_here p c)) [
    | inl ends ↦
        let is = ends_cases p c ends in
        let next = left_of keeps (place_after p (c ∷ [])) (c ∷ []) rest in
        let begun = left_begins keeps c [] rest (place_after p (c ∷ [])) in
        let parts : records_as reading (line_left keeps line ++ next) ≡ records_as reading (line_left keeps line) ++ records_as reading next =
        as_add_up reading (line_left keeps line) next (line_cut line p b is.1) (subst BeginsLine (sym begun.1) (begins_one c begun.0 is.0)) in
        let whole : records_as reading (line ++ c ∷ rest) ≡ records_as reading line ++ records_as reading (c ∷ rest) =
        as_add_up reading line (c ∷ rest) (begun_cut line p b.begins b.place is.1) (begins_one c rest is.0) in
        rw ends
        (parts ∙ ap (λ (t : Table). t ++ records_as reading next) (line_good line p b)
        ∙ ap (λ (t : Table). good (records_as reading line) ++ t) (rows_left (c ∷ []) rest (place_after p (c ∷ [])) (begun_one p c is.0 is.1))
        ∙ sym (filter-append (is_good plan width) (records_as reading line) (records_as reading (c ∷ rest))) ∙ ap good (sym whole))
    | inr goes ↦
        rw goes
        (rows_left (line ++ c ∷ []) rest (place_after p (c ∷ [])) (begun_more line p c b goes) ∙ ap (λ (t : List ℕ). good (records_as reading t)) (append_assoc line (c ∷ []) rest))
  ]

pub leaves_good_rows : LeavesGoodRows
leaves_good_rows reading plan width line rest p b = rows_left reading plan width line rest p b

-- ---- a line goes on

pub goes_none : (start : Place) (bytes : List ℕ) → GoesOn start bytes 0 start
goes_none start bytes = record {
  left = λ keeps line rest. ap (λ (t : List ℕ). left_of keeps start t (bytes ++ rest)) (sym (append-nil line));
  begun = λ line b. subst (λ (t : List ℕ). IsBegun t start) (sym (append-nil line)) b;
}

goes_byte : (keeps : List ℕ → Bool) (line rest : List ℕ) (p : Place) (c : ℕ) → ends_here p c ≡ false → left_of keeps p line (c ∷ rest) ≡ left_of keeps (place_after p (c ∷ [])) (line ++ c ∷ []) rest
unfolding left_of
goes_byte keeps line rest p c goes = rw goes refl

-- with a byte more
pub goes_more : (start : Place) (bytes : List ℕ) (at : ℕ) (p : Place) (c : ℕ) → at < length bytes → c ≡ slice_index bytes at → ends_here p c ≡ false → GoesOn start bytes at p → GoesOn start bytes (at + 1) (place_after p (c ∷ []))
goes_more start bytes at p c within is goes on =
    let next : drop at bytes ≡ c ∷ drop (at + 1) bytes = drop_more bytes at 0 within ∙ ap (λ (x : ℕ). x ∷ drop (at + 1) bytes) (sym is) in
    let longer : (line : List ℕ) → (line ++ take at bytes) ++ c ∷ [] ≡ line ++ take (at + 1) bytes = λ line.
    append_assoc line (take at bytes) (c ∷ []) ∙ ap (λ (t : List ℕ). line ++ t) (ap (λ (x : ℕ). take at bytes ++ x ∷ []) is ∙ sym (take_more bytes at 0 within)) in
    record {
      left = λ keeps line rest.
          on.left keeps line rest ∙ ap (λ (t : List ℕ). left_of keeps p (line ++ take at bytes) (t ++ rest)) next ∙ goes_byte keeps (line ++ take at bytes) (drop (at + 1) bytes ++ rest) p c goes
          ∙ ap (λ (t : List ℕ). left_of keeps (place_after p (c ∷ [])) t (drop (at + 1) bytes ++ rest)) (longer line);
      begun = λ line b. subst (λ (t : List ℕ). IsBegun t (place_after p (c ∷ []))) (longer line) (begun_more (line ++ take at bytes) p c (on.begun line b) goes);
    }

-- one byte of some
pub one_byte : (bytes : List ℕ) (at : ℕ) → at < length bytes → take (at + 1 - at) (drop at bytes) ≡ slice_index bytes at ∷ []
one_byte bytes at within = let one : at + 1 - at ≡ 1 = omega arith in ap (λ (n : ℕ). take n (drop at bytes)) one ∙ ap (take 1) (drop_more bytes at 0 within)

-- ---- lines without a refused row

pub both_of : (a b : Bool) → (a && b) ≡ true → (a ≡ true) × (b ≡ true)
both_of true b is = (refl, is)
both_of false b is = let bad : false ≡ true = is in cc bad

module _ (reading : Reading) (plan : Plan) (width : ℕ) where
  -- each of them is left
  pub all_left : (line more rest : List ℕ) (p : Place) (c : ℕ) → IsBegun line p → has_good reading plan width (line ++ more) ≡ true → ends_here (place_after p more) c ≡ true
      → left_of (has_good reading plan width) p line (more ++ c ∷ rest) ≡ (line ++ more) ++ left_of (has_good reading plan width) (place_after (place_after p more) (c ∷ [])) (c ∷ []) rest
  unfolding left_of place_after
  all_left line [] rest p c b good ends =
      let same = append-nil line in
      let kept : has_good reading plan width line ≡ true = ap (has_good reading plan width) (sym same) ∙ good in
      rw (ends, kept, same) refl
  all_left line (d ∷ more) rest p c b good ends = elim (cases_Bool (ends_here p d)) [
    | inl here ↦
        let is = ends_cases p d here in
        let keeps = has_good reading plan width in
        let parts = as_add_up reading line (d ∷ more) (begun_cut line p b.begins b.place is.1) (begins_one d more is.0) in
        let both = both_of (keeps line) (keeps (d ∷ more)) (sym (list_all-append (is_good plan width) (records_as reading line) (records_as reading (d ∷ more))) ∙ ap (list_all (is_good plan width)) (sym parts) ∙ good) in
        let later = all_left (d ∷ []) more rest (place_after p (d ∷ [])) c (begun_one p d is.0 is.1) both.1 ends in
        rw (here, both.0) (ap (λ (t : List ℕ). line ++ t) later ∙ sym (append_assoc line (d ∷ more) (left_of keeps (place_after (place_after (place_after p (d ∷ [])) more) (c ∷ [])) (c ∷ []) rest)))
    | inr goes ↦
        let keeps = has_good reading plan width in
        let same : (line ++ d ∷ []) ++ more ≡ line ++ d ∷ more = append_assoc line (d ∷ []) more in
        let later = all_left (line ++ d ∷ []) more rest (place_after p (d ∷ [])) c (begun_more line p d b goes) (ap keeps same ∙ good) ends in
        rw goes (later ∙ ap (λ (t : List ℕ). t ++ left_of keeps (place_after (place_after (place_after p (d ∷ [])) more) (c ∷ [])) (c ∷ []) rest) same)
  ]
