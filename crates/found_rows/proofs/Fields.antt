-- Fields as they are written in a text.
use Rattle.std.proofs.Common.{◌≡◌, ◌≢◌, ◌<◌, ◌≤◌, ◌+◌, ◌∙◌, ◌++◌, ℕ, true, false, List, [], ◌∷◌, length, slice_index, sym, ap, subst, inl, inr, arith, append-nil}
use Rattle.std.specs.Prelude.{◌==◌}
use Rattle.std.proofs.lemmas.Bool.{cases_eq, cases_lt, eqb-true, or_cases}
use Rattle.csv.specs.declared.parser.State.TheVariants as st
use Rattle.csv_rows.specs.Cuts.{is_quoted, state_after}
use Rattle.csv_rows.specs.Plain.{NoReturn}
use Rattle.csv_rows.specs.Splits.{is_separator}
use Rattle.csv_rows.proofs.Compose.{state-append}
use Rattle.found_rows.specs.Closing.{IsClosed, LeavesOpen}
use Rattle.found_rows.specs.Masks.{IsFirst, is_quote}
use Rattle.found_rows.specs.Written.{IsWritten, EndsNoField, between, copied, read_as}
use Rattle.found_rows.proofs.Between.{between-append, between-first, between-none, between-one, first-in, no-mark-in, no-quote-in}
use Rattle.found_rows.proofs.Bytes.{behind-runs, front-runs, opened, opened-bytes, opened-state, pair-state, pair-stays, quote-bytes, quote-state, quote-stays, quoted-runs, none-stays}
use Rattle.found_rows.proofs.Running.{copied-append, stays-append}

-- the first byte of some is no quote
other-front : (text : List ℕ) (from to : ℕ) → from ≤ to → to ≤ length text → (from < length text → slice_index text from ≢ 34)
    → 0 < length (between from to text) → slice_index (between from to text) 0 ≢ 34
other-front text from to low high other some = elim (cases_eq from to) [
  | inl same ↦ absurd (omega (arith, some, ap (length {A = ℕ}) (ap (λ n. between from n text) (sym same) ∙ between-none text from)))
  | inr apart ↦
      let lt : from < to = omega (arith, low, apart) in
      λ is. other (omega (arith, lt, high)) (sym (first-in text from to lt high) ∙ is)
]

-- ---- a field without a quote in front

pub record IsBare (text : List ℕ) (from to : ℕ) : Type 0 where
  pub written : IsWritten text from to
  pub bytes : between from to text ≡ read_as (between from to text)

pub bare : (text : List ℕ) (from to : ℕ) → NoReturn text → IsFirst is_separator text from to → (from < length text → slice_index text from ≢ 34) → IsBare text from to
bare text from to lines first other =
    let x = between from to text in
    let runs = front-runs x (no-mark-in text from to lines first.low first.high first.before) (other-front text from to first.low first.high other) in
    record {
      written = record { low = first.low; high = first.high; stays = runs.stays; ends = first.here; outside = λ _. runs.outside };
      bytes = sym runs.bytes;
    }

-- ---- a field behind a quote

pub paired-first : (text : List ℕ) (start to : ℕ) → IsFirst is_quote text start to → LeavesOpen text start to
paired-first text start to first =
    let runs = quoted-runs (between start to text) (no-quote-in text start to first.low first.before) in
    record { stays = runs.stays; inside = runs.state }

-- two quotes, and the bytes up to the next one
pub paired-more : (text : List ℕ) (start quote next : ℕ) → start ≤ quote → LeavesOpen text start quote → quote + 1 < length text → slice_index text quote ≡ 34 → slice_index text (quote + 1) ≡ 34
    → IsFirst is_quote text (quote + 2) next → LeavesOpen text start next
paired-more text start quote next low p within one two first =
    let front = between start quote text in
    let rest = between (quote + 2) next text in
    let runs = quoted-runs rest (no-quote-in text (quote + 2) next first.low first.before) in
    let up : quote + 1 + 1 ≡ quote + 2 = omega arith in
    let pair : between quote next text ≡ 34 ∷ 34 ∷ rest =
    between-first text quote next (omega (arith, first.low)) first.high
    ∙ ap (λ (c : ℕ). c ∷ between (quote + 1) next text) one
    ∙ ap (λ (xs : List ℕ). 34 ∷ xs) (between-first text (quote + 1) next (omega (arith, first.low)) first.high ∙ ap (λ (c : ℕ). c ∷ between (quote + 1 + 1) next text) two ∙ ap (λ n. 34 ∷ between n next text) up) in
    let all : between start next text ≡ front ++ (34 ∷ 34 ∷ rest) = between-append text start quote next low (omega (arith, first.low)) ∙ ap (λ (xs : List ℕ). front ++ xs) pair in
    let more : EndsNoField (state_after st.InQuoted front) (34 ∷ 34 ∷ rest) = subst (λ s. EndsNoField s (34 ∷ 34 ∷ rest)) (sym p.inside) (pair-stays rest runs.stays) in
    record {
      stays = subst (λ xs. EndsNoField st.InQuoted xs) (sym all) (stays-append st.InQuoted front (34 ∷ 34 ∷ rest) p.stays more);
      inside = ap (state_after st.InQuoted) all ∙ state-append st.InQuoted front (34 ∷ 34 ∷ rest) ∙ ap (λ s. state_after s (34 ∷ 34 ∷ rest)) p.inside ∙ pair-state rest ∙ runs.state;
    }

pub closed-end : (text : List ℕ) (start to : ℕ) → to ≡ length text → LeavesOpen text start to → IsClosed text start to
closed-end text start to is p = record { stays = p.stays; behind = λ lt. absurd (omega (arith, lt, is)); other = λ lt. absurd (omega (arith, lt, is)) }

pub closed-quote : (text : List ℕ) (start quote : ℕ) → start ≤ quote → quote < length text → slice_index text quote ≡ 34 → (quote + 1 < length text → slice_index text (quote + 1) ≢ 34) → LeavesOpen text start quote
    → IsClosed text start (quote + 1)
closed-quote text start quote low within is other p =
    let front = between start quote text in
    let one : between quote (quote + 1) text ≡ 34 ∷ [] = between-one text quote within ∙ ap (λ (c : ℕ). c ∷ []) is in
    let all : between start (quote + 1) text ≡ front ++ (34 ∷ []) = between-append text start quote (quote + 1) low (omega arith) ∙ ap (λ (xs : List ℕ). front ++ xs) one in
    let more : EndsNoField (state_after st.InQuoted front) (34 ∷ []) = subst (λ s. EndsNoField s (34 ∷ [])) (sym p.inside) quote-stays in
    record {
      stays = subst (λ xs. EndsNoField st.InQuoted xs) (sym all) (stays-append st.InQuoted front (34 ∷ []) p.stays more);
      behind = λ _. ap (state_after st.InQuoted) all ∙ state-append st.InQuoted front (34 ∷ []) ∙ ap (λ s. state_after s (34 ∷ [])) p.inside ∙ quote-state;
      other = other;
    }

-- what is written of a field with a quote in front
opened-up : (text : List ℕ) (from to : ℕ) → from < to → to ≤ length text → slice_index text from ≡ 34 → between from to text ≡ 34 ∷ between (from + 1) to text
opened-up text from to low high is = between-first text from to low high ∙ ap (λ (c : ℕ). c ∷ between (from + 1) to text) is

-- behind the closing quote, if there is anything
record Rest (text : List ℕ) (start close to : ℕ) : Type 0 where
  stays : EndsNoField (state_after st.InQuoted (between start close text)) (between close to text)
  outside : to < length text → is_quoted (state_after (state_after st.InQuoted (between start close text)) (between close to text)) ≡ false

rest-of : (text : List ℕ) (start close to : ℕ) → NoReturn text → IsClosed text start close → IsFirst is_separator text close to → Rest text start close to
rest-of text start close to lines closed first = elim (cases_lt close (length text)) [
  | inl lt ↦
      let runs = behind-runs (between close to text) (no-mark-in text close to lines first.low first.high first.before) (other-front text close to first.low first.high closed.other) in
      let state = closed.behind lt in
      record {
        stays = subst (λ s. EndsNoField s (between close to text)) (sym state) runs.stays;
        outside = λ _. ap (λ s. is_quoted (state_after s (between close to text))) state ∙ runs.outside;
      }
  | inr le ↦
      let same : close ≡ to = omega (arith, le, first.low, first.high) in
      let none : between close to text ≡ [] = ap (λ n. between close n text) (sym same) ∙ between-none text close in
      record {
        stays = subst (λ xs. EndsNoField (state_after st.InQuoted (between start close text)) xs) (sym none) (none-stays (state_after st.InQuoted (between start close text)));
        outside = λ lt. absurd (omega (arith, lt, le, same));
      }
]

-- the bytes from an opening quote up to a comma or a line feed behind the closing one
pub quoted : (text : List ℕ) (from close to : ℕ) → NoReturn text → slice_index text from ≡ 34 → from < close → IsClosed text (from + 1) close → IsFirst is_separator text close to → IsWritten text from to
quoted text from close to lines is low closed first =
    let front = between (from + 1) close text in
    let back = between close to text in
    let rest = rest-of text (from + 1) close to lines closed first in
    let inner : between (from + 1) to text ≡ front ++ back = between-append text (from + 1) close to (omega (arith, low)) first.low in
    let whole : between from to text ≡ 34 ∷ (front ++ back) = opened-up text from to (omega (arith, low, first.low)) first.high is ∙ ap (λ (xs : List ℕ). 34 ∷ xs) inner in
    record {
      low = omega (arith, low, first.low);
      high = first.high;
      stays = subst (λ xs. EndsNoField st.StartField xs) (sym whole) (opened (front ++ back) (stays-append st.InQuoted front back closed.stays rest.stays));
      ends = first.here;
      outside = λ lt. ap (λ xs. is_quoted (state_after st.StartField xs)) whole ∙ ap is_quoted (opened-state (front ++ back) ∙ state-append st.InQuoted front back) ∙ rest.outside lt;
    }

-- the field between two quotes, of which the second is the next one behind the first
pub simple : (text : List ℕ) (from quote : ℕ) → slice_index text from ≡ 34 → IsFirst is_quote text (from + 1) quote → quote < length text → between (from + 1) quote text ≡ read_as (between from (quote + 1) text)
simple text from quote is first within =
    let x = between (from + 1) quote text in
    let mark : slice_index text quote ≡ 34 = eqb-true (slice_index text quote) 34 (first.here within) in
    let one : between quote (quote + 1) text ≡ 34 ∷ [] = between-one text quote within ∙ ap (λ (c : ℕ). c ∷ []) mark in
    let inner : between (from + 1) (quote + 1) text ≡ x ++ (34 ∷ []) = between-append text (from + 1) quote (quote + 1) first.low (omega arith) ∙ ap (λ (xs : List ℕ). x ++ xs) one in
    let whole : between from (quote + 1) text ≡ 34 ∷ (x ++ (34 ∷ [])) = opened-up text from (quote + 1) (omega (arith, first.low)) (omega (arith, within)) is ∙ ap (λ (xs : List ℕ). 34 ∷ xs) inner in
    let runs = quoted-runs x (no-quote-in text (from + 1) quote first.low first.before) in
    let bytes : copied st.InQuoted (x ++ (34 ∷ [])) ≡ x =
    copied-append st.InQuoted x (34 ∷ []) ∙ (λ i. runs.bytes i ++ copied (runs.state i) (34 ∷ [])) ∙ ap (λ (xs : List ℕ). x ++ xs) quote-bytes ∙ append-nil x in
    sym (ap (copied st.StartField) whole ∙ opened-bytes (x ++ (34 ∷ [])) ∙ bytes)

-- ---- the byte that ends a field

pub comma-or-feed : (c : ℕ) → is_separator c ≡ true → c ≢ 10 → c ≡ 44
comma-or-feed c sep other = elim (or_cases (c == 44) (c == 10) sep) [ inl e ↦ eqb-true c 44 e | inr e ↦ absurd (other (eqb-true c 10 e)) ]
