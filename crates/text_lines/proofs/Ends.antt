-- Where the records of some lines end, one after another.
use Rattle.std.proofs.Common.{◌≡◌, ◌<◌, ◌≤◌, ◌+◌, ◌++◌, ◌∙◌, inl, inr, ℕ, suc, false, true, List, [], ◌∷◌, length, take, drop, slice_index, refl, ap, subst, sym, arith, below_more, take-append-drop}
use Rattle.std.proofs.Math.Seq.{take-add}
use Rattle.std.proofs.lemmas.Bool.{cases_Bool, cases_lt, eqb-true}
use Rattle.std.proofs.lemmas.List.{get_or-drop, get_or-take, get_or_past, length-drop, length-take}
use Rattle.std.specs.Prelude.{◌==◌}
use Rattle.csv.specs.Reading.{default_config, records, strip_bom}
use Rattle.csv.specs.declared.parser.State.TheVariants as st
use Rattle.csv_rows.specs.Cuts.{IsCut, state_after}
use Rattle.csv_rows.specs.Records.{records_of}
use Rattle.csv_rows.proofs.Machine.{all_from, records-all}
use Rattle.row_windows.specs.Seams.{BeginsLine, IsCutAt, is_line_end}
use Rattle.text_lines.specs.Begins.{AllEndFrom, EndsBefore}
use Rattle.row_windows.proofs.Seams.{not-feed}
use Rattle.text_lines.proofs.Parts.{cut_append, no_mark, records_append}

-- ---- a text of no bytes

pub no_records : records_of [] ≡ []
unfolding strip_bom all_from
no_records = records-all []

pub no_cut : IsCut []
unfolding strip_bom state_after
no_cut = refl

-- ---- the end of a line in a text

-- what comes at the end of a line begins with it
pub begins_at : (xs : List ℕ) (at : ℕ) → at < length xs → is_line_end (slice_index xs at) ≡ true → BeginsLine (drop at xs)
begins_at xs at low is =
    let same : at + 0 ≡ at = omega arith in
    record { some = omega (arith, low, length-drop at xs); is = ap is_line_end (get_or-drop at xs 0 0 ∙ ap (slice_index xs) same) ∙ is }

pub line_at : (xs : List ℕ) (at : ℕ) → BeginsLine (drop at xs) → is_line_end (slice_index xs at) ≡ true
line_at xs at line =
    let same : at + 0 ≡ at = omega arith in
    ap is_line_end (sym (get_or-drop at xs 0 0 ∙ ap (slice_index xs) same)) ∙ line.is

-- the front of what begins so, if it has a byte
pub begins_front : (xs : List ℕ) (n : ℕ) → 0 < n → BeginsLine xs → BeginsLine (take n xs)
begins_front xs n some line = record { some = omega (arith, length-take n xs, some, line.some); is = ap is_line_end (get_or-take n xs 0 0 some) ∙ line.is }

-- ---- records that end

pub ends_first : (xs : List ℕ) → BeginsLine xs → EndsBefore xs 0 0
ends_first xs line = record { within = line.some; whole = no_cut; number = ap length no_records; line = line.is }

-- one record more
pub ends_next : (xs : List ℕ) (before end more : ℕ) → EndsBefore xs before end → IsCutAt (drop end xs) more → length (records_of (take more (drop end xs))) ≡ 1 → EndsBefore xs (before + 1) (end + more)
ends_next xs before end more e cut one =
    let rest = drop end xs in
    let piece = take more rest in
    let begun : BeginsLine piece = begins_front rest more cut.low (begins_at xs end e.within e.line) in
    let front : take (end + more) xs ≡ take end xs ++ piece = take-add end more xs in
    let count = records_append (take end xs) piece e.whole begun in
    record {
      within = omega (arith, cut.within, length-drop end xs, e.within);
      whole = subst IsCut (sym front) (cut_append (take end xs) piece e.whole begun cut.seam.whole);
      number = ap (λ (l : List ℕ). length (records_of l)) front ∙ (let sum : length (records_of (take end xs ++ piece)) ≡ before + 1 = omega (arith, count, one, e.number) in sum);
      line = ap is_line_end (sym (get_or-drop end xs more 0)) ∙ line_at rest more cut.seam.line;
    }

-- there is one more if the text has more records
pub no_end : (xs : List ℕ) (before end : ℕ) → EndsBefore xs before end → length (records_of (drop end xs)) ≤ 1 → length (records_of xs) ≤ before + 1
no_end xs before end e few =
    let count = records_append (take end xs) (drop end xs) e.whole (begins_at xs end e.within e.line) in
    let all : length (records_of (take end xs ++ drop end xs)) ≡ length (records_of xs) = ap (λ (l : List ℕ). length (records_of l)) (take-append-drop end xs) in
    omega (arith, count, all, few, e.number)

-- ---- ends of lines

pub ends_more : (xs : List ℕ) (from at : ℕ) → AllEndFrom xs from at → is_line_end (slice_index xs at) ≡ true → AllEndFrom xs from (at + 1)
ends_more xs from at all here = λ k low high. below_more (λ (j : ℕ). from ≤ j → is_line_end (slice_index xs j) ≡ true) at (λ j lt le. all j le lt) (λ _. here) k high low

pub no_end_past : (xs : List ℕ) → is_line_end (slice_index xs (length xs)) ≡ false
no_end_past xs = ap is_line_end (get_or_past xs (length xs) 0 (omega arith))

-- ends of lines are no records
ends_none : (xs : List ℕ) → AllEndFrom xs 0 (length xs) → all_from st.StartRecord [] [] xs ≡ []
unfolding all_from
ends_none [] all = refl
ends_none (c ∷ xs) all =
    let rest = ends_none xs (λ k low high. all (suc k) (omega arith) (omega (arith, high))) in
    let line : is_line_end c ≡ true = all 0 (omega arith) (omega arith) in
    elim (cases_Bool (c == 10)) [
      | inl e ↦ let is : c ≡ 10 = eqb-true c 10 e in rw is rest
      | inr e ↦ let is : c ≡ 13 = not-feed c e line in rw is rest
    ]

pub only_ends : (xs : List ℕ) → BeginsLine xs → AllEndFrom xs 0 (length xs) → records_of xs ≡ []
only_ends xs line all = ap (records default_config) (no_mark xs line) ∙ (records-all xs ∙ ends_none xs all)

-- so a record begins before the end of a text that has it
pub begin_within : (xs : List ℕ) (before end at : ℕ) → EndsBefore xs before end → before < length (records_of xs) → AllEndFrom xs end at → at ≤ length xs → at < length xs
begin_within xs before end at e some all high = elim (cases_lt at (length xs)) [
  | inl low ↦ low
  | inr past ↦
      let rest = drop end xs in
      let size = length-drop end xs in
      let line : BeginsLine rest = begins_at xs end e.within e.line in
      let none : records_of rest ≡ [] =
      only_ends rest line (λ k _ low. ap is_line_end (get_or-drop end xs k 0) ∙ all (end + k) (omega arith) (omega (arith, low, size, past))) in
      let count = records_append (take end xs) rest e.whole line in
      let whole : length (records_of (take end xs ++ rest)) ≡ length (records_of xs) = ap (λ (l : List ℕ). length (records_of l)) (take-append-drop end xs) in
      absurd (omega (arith, count, whole, ap length none, e.number, some))
]
