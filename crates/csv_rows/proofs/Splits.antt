-- A scan for commas and line feeds fills the lists of a text without quotes.
use Rattle.std.proofs.Common.{◌≡◌, ◌≢◌, ◌<◌, ◌≤◌, ◌+◌, ◌-◌, ◌∙◌, ◌⊎◌, ℕ, zero, suc, Bool, true, false, List, [], ◌∷◌, ◌++◌, take, drop, length, slice_index, refl, sym, ap, inl, inr, arith, append_assoc, append-nil, length-append, length-drop, take_all, drop-drop}
use Rattle.std.specs.Prelude.{◌==◌, ◌&&◌}
use Rattle.std.proofs.lemmas.Bool.{cases_Bool, eqb-true}
use Rattle.std.proofs.lemmas.List.{drop-append-le, drop_all, get_or-drop, get_or-take, length-take}
use Rattle.csv.specs.Records.{Rising, last_end}
use Rattle.csv.proofs.RecordFacts.{last-append, rising-end, rising-more}
use Rattle.csv_rows.specs.Plain.{NoMark, NoReturn, is_mark, is_none, plain_from, plain_records}
use Rattle.csv_rows.specs.Splits.{IsAt, IsSplit, IsWhole, NoSeparator, is_separator}
use Rattle.csv_rows.specs.Store.{Apart, cut_apart, group_from, next_start}
use Rattle.csv_rows.proofs.Gaps.{apart-length, apart-more, apart-push, next-push}
use Rattle.csv_rows.proofs.Groups.{apart-stored-length, group-end, group-more}
use Rattle.csv_rows.proofs.Scans.{split-at}
use Rattle.csv_rows.proofs.Unquoted.{plain-field, plain-last, plain-line}

-- nothing was read
split-none : (text : List ℕ) → IsSplit text [] [] 0
unfolding next_start Apart Rising last_end group_from cut_apart
split-none text = record { start = refl; apart = omega arith; rising = omega arith; within = omega arith; law = refl }

-- what one more place, this many bytes behind the start of the field at hand, adds to the fields
field-push : (text ends : List ℕ) (from count : ℕ) → next_start 1 0 ends ≡ from
    → cut_apart 1 0 (ends ++ ((from + count) ∷ [])) text ≡ cut_apart 1 0 ends text ++ (take count (drop from text) ∷ [])
field-push text ends from count at =
    let size : from + count - from ≡ count = omega arith in
    rw (apart-push 1 0 ends (from + count) text, at, size) refl

-- the text from a field on: the field, its mark, and what stands behind it
pub behind : (text : List ℕ) (from count c : ℕ) → count < length (drop from text) → slice_index (drop from text) count ≡ c
    → drop from text ≡ take count (drop from text) ++ (c ∷ drop (from + count + 1) text)
behind text from count c lt is =
    let at : from + count + 1 ≡ from + (count + 1) = omega arith in
    rw (at, ← drop-drop (count + 1) from text) (split-at (drop from text) count c lt is)

-- a field up to a comma
pub split-comma : (text ends rows : List ℕ) (from count : ℕ) → IsSplit text ends rows from → count < length (drop from text) → slice_index (drop from text) count ≡ 44
    → NoMark (take count (drop from text)) → IsSplit text (ends ++ ((from + count) ∷ [])) rows (from + count + 1)
split-comma text ends rows from count s lt is clean =
    let x = take count (drop from text) in
    let cut = cut_apart 1 0 ends text in
    let size = apart-length 1 0 ends text in
    let grown = length-append ends ((from + count) ∷ []) in
    let up : Rising 0 rows (length cut) = rw size s.rising in
    let le : last_end 0 rows ≤ length cut = rw size s.within in
    let more : length ends ≤ length (ends ++ ((from + count) ∷ [])) = omega arith in
    let step = ap (plain_from (drop (last_end 0 rows) cut) []) (behind text from count 44 lt is) ∙ plain-field (drop (last_end 0 rows) cut) x (drop (from + count + 1) text) clean in
    record {
      start = next-push 1 0 ends (from + count);
      apart = apart-more 1 0 ends (from + count) (length text) s.apart (omega (arith, s.start)) (omega (arith, lt, length-drop from text));
      rising = rising-more 0 rows (length ends) (length (ends ++ ((from + count) ∷ []))) s.rising more;
      within = omega (arith, s.within, more);
      law = rw (field-push text ends from count s.start, group-more 0 rows cut (x ∷ []) up, drop-append-le (last_end 0 rows) cut (x ∷ []) le)
          (ap (λ rs. group_from 0 rows cut ++ rs) (sym step) ∙ s.law);
    }

-- the last field of a record, up to a line feed
pub split-line : (text ends rows : List ℕ) (from count : ℕ) → IsSplit text ends rows from → count < length (drop from text) → slice_index (drop from text) count ≡ 10
    → NoMark (take count (drop from text)) → (is_none (take count (drop from text)) && is_none (drop (last_end 0 rows) (cut_apart 1 0 ends text))) ≡ false
    → IsSplit text (ends ++ ((from + count) ∷ [])) (rows ++ (length (ends ++ ((from + count) ∷ [])) ∷ [])) (from + count + 1)
split-line text ends rows from count s lt is clean some =
    let x = take count (drop from text) in
    let cut = cut_apart 1 0 ends text in
    let now = ends ++ ((from + count) ∷ []) in
    let all = cut_apart 1 0 now text in
    let size = apart-length 1 0 ends text in
    let sized = apart-length 1 0 now text in
    let grown = length-append ends ((from + count) ∷ []) in
    let up : Rising 0 rows (length cut) = rw size s.rising in
    let le : last_end 0 rows ≤ length cut = rw size s.within in
    let more : length ends ≤ length now = omega arith in
    let wide : Rising 0 rows (length now) = rising-more 0 rows (length ends) (length now) s.rising more in
    let whole : Rising 0 rows (length all) = rw sized wide in
    let ended = rw sized at (group-end 0 rows all whole) in
    let push = field-push text ends from count s.start in
    let none : drop (length now) all ≡ [] = drop_all (length now) all (omega arith) in
    let step = ap (plain_from (drop (last_end 0 rows) cut) []) (behind text from count 10 lt is) ∙ plain-line (drop (last_end 0 rows) cut) x (drop (from + count + 1) text) clean some in
    record {
      start = next-push 1 0 ends (from + count);
      apart = apart-more 1 0 ends (from + count) (length text) s.apart (omega (arith, s.start)) (omega (arith, lt, length-drop from text));
      rising = rising-end 0 rows (length now) wide;
      within = rw (last-append 0 rows (length now)) (omega arith);
      law = rw (last-append 0 rows (length now), none, ended) (rw (push, group-more 0 rows cut (x ∷ []) up, drop-append-le (last_end 0 rows) cut (x ∷ []) le)
          (append_assoc (group_from 0 rows cut) ((drop (last_end 0 rows) cut ++ (x ∷ [])) ∷ []) (plain_from [] [] (drop (from + count + 1) text)) ∙ ap (λ rs. group_from 0 rows cut ++ rs) (sym step) ∙ s.law));
    }

-- the last field of the text
pub split-last : (text ends rows : List ℕ) (from : ℕ) → IsSplit text ends rows from → from ≤ length text → NoMark (drop from text)
    → (is_none (drop from text) && is_none (drop (last_end 0 rows) (cut_apart 1 0 ends text))) ≡ false
    → IsWhole text (ends ++ (length text ∷ [])) (rows ++ (length (ends ++ (length text ∷ [])) ∷ []))
split-last text ends rows from s fits clean some =
    let count = length text - from in
    let end : length text ≡ from + count = omega arith in
    let x = take count (drop from text) in
    let cut = cut_apart 1 0 ends text in
    let now = ends ++ (length text ∷ []) in
    let all = cut_apart 1 0 now text in
    let size = apart-length 1 0 ends text in
    let sized = apart-length 1 0 now text in
    let grown = length-append ends (length text ∷ []) in
    let up : Rising 0 rows (length cut) = rw size s.rising in
    let le : last_end 0 rows ≤ length cut = rw size s.within in
    let more : length ends ≤ length now = omega arith in
    let wide : Rising 0 rows (length now) = rising-more 0 rows (length ends) (length now) s.rising more in
    let whole : Rising 0 rows (length all) = rw sized wide in
    let ended = rw sized at (group-end 0 rows all whole) in
    let rest = length-drop from text in
    let full : take count (drop from text) ≡ drop from text = take_all count (drop from text) (omega arith) in
    let push : all ≡ cut ++ (drop from text ∷ []) = rw end (field-push text ends from count s.start ∙ rw full refl) in
    let step = plain-last (drop (last_end 0 rows) cut) (drop from text) clean some in
    record {
      apart = apart-more 1 0 ends (length text) (length text) s.apart (omega (arith, s.start, fits)) (omega arith);
      rising = rising-end 0 rows (length now) wide;
      law = ended ∙ rw (push, group-more 0 rows cut (drop from text ∷ []) up, drop-append-le (last_end 0 rows) cut (drop from text ∷ []) le)
          (ap (λ rs. group_from 0 rows cut ++ rs) (sym step) ∙ s.law);
    }

-- nothing is left, and no record is begun
pub split-ended : (text ends rows : List ℕ) → IsSplit text ends rows (length text) → last_end 0 rows ≡ length ends → IsWhole text ends rows
unfolding plain_from
split-ended text ends rows s is =
    let size = apart-length 1 0 ends text in
    let none : drop (last_end 0 rows) (cut_apart 1 0 ends text) ≡ [] = drop_all (last_end 0 rows) (cut_apart 1 0 ends text) (omega (arith, size, is)) in
    let law = rw (none, drop_all (length text) text (omega arith), append-nil (group_from 0 rows (cut_apart 1 0 ends text))) at s.law in
    record { apart = s.apart; rising = s.rising; law = law }

-- a list that goes on, and a field of some bytes
pub drop-some : {A : Type 0} (n : ℕ) (xs : List A) → n < length xs → is_none (drop n xs) ≡ false
drop-some n [] lt = absurd (omega arith)
drop-some zero (x ∷ xs) lt = refl
drop-some (suc n) (x ∷ xs) lt = drop-some n xs (omega arith)

pub take-some : {A : Type 0} (count : ℕ) (xs : List A) → count < length xs → count ≢ 0 → is_none (take count xs) ≡ false
take-some count [] lt some = absurd (omega arith)
take-some zero (x ∷ xs) lt some = absurd (some refl)
take-some (suc count) (x ∷ xs) lt some = refl

-- a line with a field, or some bytes of one, is not empty
pub either-some : (a b : Bool) → (a ≡ false) ⊎ (b ≡ false) → (a && b) ≡ false
either-some a b (inl e) = rw e refl
either-some true b (inr e) = e
either-some false b (inr e) = refl

-- without carriage returns a byte that ends no field parts nothing
no-mark : (c : ℕ) → c ≢ 13 → is_separator c ≡ false → is_mark c ≡ false
no-mark c r s = elim (cases_Bool (c == 13)) [
  | inl e ↦ absurd (r (eqb-true c 13 e))
  | inr e ↦ elim (cases_Bool (c == 44)) [ inl m ↦ absurd (cc (rw m at s)) | inr m ↦ rw (m, e) (rw m at s) ]
]

pub no-marks : (text : List ℕ) (from count : ℕ) → NoReturn text → from + count ≤ length text → NoSeparator text from (from + count) → NoMark (take count (drop from text))
no-marks text from count lines within clean = λ k lt.
    let short : k < count = omega (arith, length-take count (drop from text)) in
    let read : slice_index (take count (drop from text)) k ≡ slice_index text (from + k) = get_or-take count (drop from text) k 0 short ∙ get_or-drop from text k 0 in
    rw read (no-mark (slice_index text (from + k)) (lines (from + k) (omega arith)) (clean (from + k) (omega arith) (omega arith)))

pub no-marks-last : (text : List ℕ) (from : ℕ) → NoReturn text → from ≤ length text → NoSeparator text from (length text) → NoMark (drop from text)
no-marks-last text from lines within clean =
    let count = length text - from in
    let rest = length-drop from text in
    let full : take count (drop from text) ≡ drop from text = take_all count (drop from text) (omega arith) in
    rw full at (no-marks text from count lines (omega arith) (λ j low high. clean j low (omega (arith, high, within))))

-- the field at hand up to the byte that ends it, counted from its start
record FieldUpTo (text : List ℕ) (from count c : ℕ) : Type 0 where
  short : count < length (drop from text)
  byte : slice_index (drop from text) count ≡ c
  clean : NoMark (take count (drop from text))

field-up-to : (text : List ℕ) (from count place c : ℕ) → from + count ≡ place → NoReturn text → place < length text → slice_index text place ≡ c → NoSeparator text from place → FieldUpTo text from count c
field-up-to text from count place c is lines high byte clean = record {
  short = omega (arith, length-drop from text);
  byte = get_or-drop from text count 0 ∙ ap (λ j. slice_index text j) is ∙ byte;
  clean = no-marks text from count lines (omega (arith, is, high)) (λ j low up. clean j low (omega (arith, is, up)));
}

-- in front of the text
pub at-start : (text : List ℕ) → IsAt text [] [] 0 0
unfolding last_end
at-start text = record { split = split-none text; begins = refl; high = omega arith }

-- past a comma
pub at-comma : (text ends rows : List ℕ) (from first place : ℕ) → NoReturn text → IsAt text ends rows from first → from ≤ place → place < length text → slice_index text place ≡ 44
    → NoSeparator text from place → IsAt text (ends ++ (place ∷ [])) rows (place + 1) first
at-comma text ends rows from first place lines a low high byte clean =
    let count = place - from in
    let is : from + count ≡ place = omega (arith, low) in
    let f = field-up-to text from count place 44 is lines high byte clean in
    record {
      split = rw is at (split-comma text ends rows from count a.split f.short f.byte f.clean);
      begins = a.begins;
      high = omega (arith, high);
    }

below : (a b : ℕ) → a ≤ b → a ≢ b → a < b
below a b le differs = grind (arith, le, differs)

-- the record at hand has a field
fields-some : (text ends rows : List ℕ) (from first : ℕ) → IsAt text ends rows from first → length ends ≢ first → is_none (drop (last_end 0 rows) (cut_apart 1 0 ends text)) ≡ false
fields-some text ends rows from first a more =
    let size = apart-length 1 0 ends text in
    let lt : last_end 0 rows < length ends = below (last_end 0 rows) (length ends) a.split.within (λ is. more (sym is ∙ sym a.begins)) in
    drop-some (last_end 0 rows) (cut_apart 1 0 ends text) (rw size lt)

line-some : (text ends rows : List ℕ) (from first count : ℕ) → IsAt text ends rows from first → count < length (drop from text) → (count ≢ 0) ⊎ (length ends ≢ first)
    → (is_none (take count (drop from text)) && is_none (drop (last_end 0 rows) (cut_apart 1 0 ends text))) ≡ false
line-some text ends rows from first count a lt (inl some) = either-some (is_none (take count (drop from text))) (is_none (drop (last_end 0 rows) (cut_apart 1 0 ends text))) (inl (take-some count (drop from text) lt some))
line-some text ends rows from first count a lt (inr more) =
    either-some (is_none (take count (drop from text))) (is_none (drop (last_end 0 rows) (cut_apart 1 0 ends text))) (inr (fields-some text ends rows from first a more))

-- past a line feed
pub at-line : (text ends rows : List ℕ) (from first place : ℕ) → NoReturn text → IsAt text ends rows from first → from ≤ place → place < length text → slice_index text place ≡ 10
    → NoSeparator text from place → (from ≢ place) ⊎ (length ends ≢ first)
    → IsAt text (ends ++ (place ∷ [])) (rows ++ (length (ends ++ (place ∷ [])) ∷ [])) (place + 1) (length (ends ++ (place ∷ [])))
at-line text ends rows from first place lines a low high byte clean goes =
    let count = place - from in
    let is : from + count ≡ place = omega (arith, low) in
    let f = field-up-to text from count place 10 is lines high byte clean in
    let some = line-some text ends rows from first count a f.short (elim goes [ inl differs ↦ inl (λ none. differs (omega (arith, is, none))) | inr more ↦ inr more ]) in
    record {
      split = rw is at (split-line text ends rows from count a.split f.short f.byte f.clean some);
      begins = sym (last-append 0 rows (length (ends ++ (place ∷ []))));
      high = omega (arith, high);
    }

-- past the end of the text
pub at-last : (text ends rows : List ℕ) (from first : ℕ) → NoReturn text → IsAt text ends rows from first → NoSeparator text from (length text) → (from ≢ length text) ⊎ (length ends ≢ first)
    → IsWhole text (ends ++ (length text ∷ [])) (rows ++ (length (ends ++ (length text ∷ [])) ∷ []))
at-last text ends rows from first lines a clean goes =
    let some : (is_none (drop from text) && is_none (drop (last_end 0 rows) (cut_apart 1 0 ends text))) ≡ false = elim goes [
      | inl differs ↦ either-some (is_none (drop from text)) (is_none (drop (last_end 0 rows) (cut_apart 1 0 ends text))) (inl (drop-some from text (below from (length text) a.high differs)))
      | inr more ↦ either-some (is_none (drop from text)) (is_none (drop (last_end 0 rows) (cut_apart 1 0 ends text))) (inr (fields-some text ends rows from first a more))
    ] in
    split-last text ends rows from a.split a.high (no-marks-last text from lines a.high clean) some

pub at-end : (text ends rows : List ℕ) (from first : ℕ) → IsAt text ends rows from first → from ≡ length text → length ends ≡ first → IsWhole text ends rows
at-end text ends rows from first a end none = split-ended text ends rows (rw end at a.split) (sym a.begins ∙ sym none)

-- the records of a text that was scanned are as many as the ends of records
pub whole-length : (text ends rows : List ℕ) → IsWhole text ends rows → length (plain_records text) ≡ length rows
whole-length text ends rows w = ap length (sym w.law) ∙ apart-stored-length 1 text ends rows
