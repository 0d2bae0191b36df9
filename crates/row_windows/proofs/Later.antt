-- The last end of a line outside quotes, as more of a text is gone through.
use Rattle.std.proofs.Common.{◌≡◌, ◌≢◌, ◌<◌, ◌≤◌, ◌+◌, ◌-◌, ◌∙◌, inl, inr, ℕ, true, false, List, Option, None, Some, length, take, drop, slice_index, refl, sym, ap, arith}
use Rattle.std.specs.Prelude.{not}
use Rattle.std.proofs.lemmas.Bool.{cases_lt}
use Rattle.std.proofs.lemmas.List.{get_or-drop, get_or-take, length-drop, length-take}
use denote.Enum.Bare.{sameb}
use Rattle.memchr.specs.Find.{Nowhere, NoneAfter, Passes, is_byte2}
use Rattle.csv_rows.specs.Places.{NoQuote, place_after}
use Rattle.csv_rows.specs.contracts.place.Place.{the_type}
use Rattle.csv_rows.specs.declared.place.Place.{Place}
use Rattle.csv_rows.specs.declared.place.Place.TheVariants as place
use Rattle.row_windows.specs.Ends.{IsLastBelow, IsOpenEnd}
use Rattle.row_windows.specs.Seams.{is_line_end}
use Rattle.row_windows.specs.Stretch.{between}
use Rattle.row_windows.proofs.QuoteScans.{outside-on, quoted-on}

pub is-quoted : (p : Place) → sameb the_type p place.Quoted ≡ true → p ≡ place.Quoted
is-quoted place.Quoted h = refl
is-quoted place.Opens h = cc
is-quoted place.Inside h = cc

pub not-quoted : (p : Place) → sameb the_type p place.Quoted ≡ false → p ≢ place.Quoted
not-quoted place.Quoted h = cc
not-quoted place.Opens h = λ is. cc is
not-quoted place.Inside h = λ is. cc is

pub not-not-quoted : (p : Place) → not (sameb the_type p place.Quoted) ≡ false → p ≡ place.Quoted
not-not-quoted place.Quoted h = refl
not-not-quoted place.Opens h = cc
not-not-quoted place.Inside h = cc

-- between quotes no line ends
pub quoted-later : (text : List ℕ) (from to : ℕ) (last : Option ℕ) → from ≤ to → NoQuote (between from to text) → place_after place.Opens (take from text) ≡ place.Quoted
    → IsLastBelow text from last → IsLastBelow text to last
quoted-later text from to last order others quoted before = record {
  some = before.some;
  none = λ is at low lt line. elim (cases_lt at from) [
    | inl below ↦ before.none is at low below line
    | inr above ↦ quoted-on text from at (to - from) above (omega (arith, order, lt)) others quoted
  ];
}

-- a byte of a stretch
byte-between : (text : List ℕ) (from to k : ℕ) → k < to - from → slice_index (between from to text) k ≡ slice_index text (from + k)
byte-between text from to k lt = get_or-take (to - from) (drop from text) k 0 lt ∙ get_or-drop from text k 0

-- how many bytes it has
length-between : (text : List ℕ) (from to : ℕ) → from ≤ to → to ≤ length text → length (between from to text) ≡ to - from
length-between text from to order within = omega (arith, length-take (to - from) (drop from text), length-drop from text, order, within)

-- outside quotes the last one that is found
pub found-later : (text : List ℕ) (from to k : ℕ) → from ≤ to → to ≤ length text → NoQuote (between from to text) → place_after place.Opens (take from text) ≢ place.Quoted
    → NoneAfter (Passes (is_byte2 10 13) (between from to text)) 0 (length (between from to text)) k × Passes (is_byte2 10 13) (between from to text) k
    → 0 < from + k → IsLastBelow text to (Some (from + k))
found-later text from to k order within others outer found low =
    let size = length-between text from to order within in
    let short : k < to - from = omega (arith, size, found.0.high) in
    let line : is_line_end (slice_index text (from + k)) ≡ true = ap is_line_end (sym (byte-between text from to k short)) ∙ found.1 in
    let end : IsOpenEnd text (from + k) = record { low = low; within = omega (arith, short, within); line = line; outside = outside-on text from k (to - from) (omega (arith, short)) others outer } in
    record { some = end; none = λ is. cc is }

-- or none, and then it is the one before
pub none-later : (text : List ℕ) (from to : ℕ) (last : Option ℕ) → ((at : ℕ) → 0 < at → from ≤ at → at < to → is_line_end (slice_index text at) ≡ true → ⊥)
    → IsLastBelow text from last → IsLastBelow text to last
none-later text from to last clear before = record {
  some = before.some;
  none = λ is at low lt line. elim (cases_lt at from) [
    | inl below ↦ before.none is at low below line
    | inr above ↦ absurd (clear at low above lt line)
  ];
}

-- no line ends in a stretch in which none was found
pub clear-none : (text : List ℕ) (from to : ℕ) → from ≤ to → to ≤ length text → Nowhere (Passes (is_byte2 10 13) (between from to text)) 0 (length (between from to text))
    → (at : ℕ) → 0 < at → from ≤ at → at < to → is_line_end (slice_index text at) ≡ true → ⊥
clear-none text from to order within none at low above lt line =
    let size = length-between text from to order within in
    let short : at - from < to - from = omega (arith, above, lt) in
    let same : from + (at - from) ≡ at = omega (arith, above) in
    let byte : slice_index (between from to text) (at - from) ≡ slice_index text at = byte-between text from to (at - from) short ∙ ap (slice_index text) same in
    none (at - from) (omega arith) (omega (arith, size, short)) (ap is_line_end byte ∙ line)

-- or in which the last was found at the first byte of the text
pub clear-first : (text : List ℕ) (from to k : ℕ) → from ≤ to → to ≤ length text
    → NoneAfter (Passes (is_byte2 10 13) (between from to text)) 0 (length (between from to text)) k × Passes (is_byte2 10 13) (between from to text) k
    → from + k ≡ 0 → (at : ℕ) → 0 < at → from ≤ at → at < to → is_line_end (slice_index text at) ≡ true → ⊥
clear-first text from to k order within found first at low above lt line =
    let size = length-between text from to order within in
    let short : at - from < to - from = omega (arith, above, lt) in
    let same : from + (at - from) ≡ at = omega (arith, above) in
    let byte : slice_index (between from to text) (at - from) ≡ slice_index text at = byte-between text from to (at - from) short ∙ ap (slice_index text) same in
    found.0.after (at - from) (omega (arith, first, low)) (omega (arith, size, short)) (ap is_line_end byte ∙ line)

-- before any byte
pub none-yet : (text : List ℕ) → IsLastBelow text 0 None
none-yet text = record { some = tt; none = λ is at low lt line. absurd (omega (arith, lt)) }

no-end : is_line_end 34 ≡ true → ⊥
no-end h = cc h

-- a quote ends no line
pub past-quote : (text : List ℕ) (n : ℕ) (last : Option ℕ) → slice_index text n ≡ 34 → IsLastBelow text n last → IsLastBelow text (n + 1) last
past-quote text n last quote before = record {
  some = before.some;
  none = λ is at low lt line. elim (cases_lt at n) [
    | inl below ↦ before.none is at low below line
    | inr above ↦
        let same : at ≡ n = omega (arith, above, lt) in
        let here = rw (same, quote) at line in
        absurd (no-end here)
  ];
}
