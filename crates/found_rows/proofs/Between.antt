-- The bytes from one place of a text to another.
use Rattle.std.proofs.Common.{◌≡◌, ◌≢◌, ◌<◌, ◌≤◌, ◌+◌, ◌-◌, ◌∙◌, ◌++◌, ℕ, suc, false, List, [], ◌∷◌, drop, length, slice_index, take, sym, ap, arith}
use Rattle.std.proofs.lemmas.List.{drop-drop, drop_more, get_or-drop, length-drop, take_all}
use Rattle.std.proofs.Math.Seq.{take-add}
use Rattle.csv_rows.specs.Places.{NoQuote}
use Rattle.csv_rows.specs.Plain.{NoMark, NoReturn}
use Rattle.csv_rows.specs.Splits.{is_separator}
use Rattle.csv_rows.proofs.Scans.{no-quote-between, split-at}
use Rattle.csv_rows.proofs.Splits.{no-marks}
use Rattle.found_rows.specs.Masks.{NoneIn, is_quote}
use Rattle.found_rows.specs.Written.{between}

pub between-none : (text : List ℕ) (at : ℕ) → between at at text ≡ []
between-none text at =
    let zero-count : at - at ≡ 0 = omega arith in
    ap (λ n. take n (drop at text)) zero-count

-- two parts, one behind the other
pub between-append : (text : List ℕ) (from mid to : ℕ) → from ≤ mid → mid ≤ to → between from to text ≡ between from mid text ++ between mid to text
between-append text from mid to low high =
    let count : to - from ≡ (mid - from) + (to - mid) = omega (arith, low, high) in
    let place : from + (mid - from) ≡ mid = omega (arith, low) in
    ap (λ n. take n (drop from text)) count ∙ take-add (mid - from) (to - mid) (drop from text)
    ∙ ap (λ (rest : List ℕ). take (mid - from) (drop from text) ++ take (to - mid) rest) (drop-drop (mid - from) from text ∙ ap (λ n. drop n text) place)

-- the first byte and the others
pub between-first : (text : List ℕ) (from to : ℕ) → from < to → to ≤ length text → between from to text ≡ slice_index text from ∷ between (from + 1) to text
between-first text from to low high =
    let count : to - from ≡ suc (to - (from + 1)) = omega (arith, low) in
    ap (λ (rest : List ℕ). take (to - from) rest) (drop_more text from 0 (omega (arith, low, high))) ∙ ap (λ n. take n (slice_index text from ∷ drop (from + 1) text)) count

-- one byte
pub between-one : (text : List ℕ) (at : ℕ) → at < length text → between at (at + 1) text ≡ slice_index text at ∷ []
between-one text at low = between-first text at (at + 1) (omega arith) (omega (arith, low)) ∙ ap (λ (xs : List ℕ). slice_index text at ∷ xs) (between-none text (at + 1))

-- a text from a place on: the bytes up to another, that one, and what is behind
pub parted : (text : List ℕ) (from to c : ℕ) → from ≤ to → to < length text → slice_index text to ≡ c → drop from text ≡ between from to text ++ (c ∷ drop (to + 1) text)
parted text from to c low high is =
    let count = to - from in
    let place : from + count ≡ to = omega (arith, low) in
    let next : from + (count + 1) ≡ to + 1 = omega (arith, low) in
    let here : slice_index (drop from text) count ≡ c = get_or-drop from text count 0 ∙ ap (λ j. slice_index text j) place ∙ is in
    split-at (drop from text) count c (omega (arith, length-drop from text, low, high)) here
    ∙ ap (λ (rest : List ℕ). take count (drop from text) ++ (c ∷ rest)) (drop-drop (count + 1) from text ∙ ap (λ n. drop n text) next)

-- and up to its end
pub rest-between : (text : List ℕ) (from : ℕ) → drop from text ≡ between from (length text) text
rest-between text from = sym (take_all (length text - from) (drop from text) (omega (arith, length-drop from text)))

-- ---- what is not among them

pub no-mark-in : (text : List ℕ) (from to : ℕ) → NoReturn text → from ≤ to → to ≤ length text → NoneIn is_separator text from to → NoMark (between from to text)
no-mark-in text from to lines low high none =
    let place : from + (to - from) ≡ to = omega (arith, low) in
    no-marks text from (to - from) lines (omega (arith, low, high)) (λ j l h. none j l (omega (arith, h, place)))

not-quote : (c : ℕ) → is_quote c ≡ false → c ≢ 34
not-quote c h = λ is. absurd (cc (rw is at h))

pub no-quote-in : (text : List ℕ) (from to : ℕ) → from ≤ to → NoneIn is_quote text from to → NoQuote (between from to text)
no-quote-in text from to low none = no-quote-between text from (to - from) (λ j lt. not-quote (slice_index text (from + j)) (none (from + j) (omega arith) (omega (arith, lt, low))))

-- the first of them
pub first-in : (text : List ℕ) (from to : ℕ) → from < to → to ≤ length text → slice_index (between from to text) 0 ≡ slice_index text from
first-in text from to low high = ap (λ (xs : List ℕ). slice_index xs 0) (between-first text from to low high)
