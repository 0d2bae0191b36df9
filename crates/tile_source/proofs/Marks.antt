-- What the bits of a mask say of the quotes of a text.
use Rattle.std.proofs.Common.{◌≡◌, ◌≢◌, ◌<◌, ◌≤◌, ◌+◌, ◌-◌, ◌∙◌, ◌↔◌, ℕ, zero, suc, List, [], ◌∷◌, drop, length, slice_index, take, sym, ap, inl, inr, arith}
use Rattle.std.specs.Int.{bit_at}
use Rattle.std.proofs.lemmas.Bool.{cases_lt, cases_order}
use Rattle.std.proofs.lemmas.List.{get_or-drop, length-drop}
use Rattle.std.proofs.lemmas.Nat.Bits.{bit_at-zero}
use Rattle.csv_rows.specs.Places.{NoQuote, after_quote, place_after}
use Rattle.csv_rows.specs.declared.place.Place.{Place}
use Rattle.csv_rows.proofs.Scans.{no-quote-between, one-quote, past-all, past-byte}
use Rattle.tile_source.specs.Quotes.{Marked, NoQuoteIn}

-- the mask of the 64 bytes behind those that were scanned
pub marked-first : (text : List ℕ) (at from mask : ℕ) → ((k : ℕ) → (bit_at mask k ≡ 1) ↔ ((k < 64) × (slice_index text (at + k) ≡ 34))) → from ≤ at → NoQuoteIn text from at → Marked text at from mask
marked-first text at from mask is low clean = record {
  each = λ k lt le quote. (is k).1 (lt, quote);
  only = λ k set. let b = (is k).0 set in (b.0, omega (arith, low), b.1);
  before = clean;
  low = omega (arith, low);
}

-- there is no quote in front of the lowest bit
clear-to : (text : List ℕ) (at from mask bit : ℕ) → Marked text at from mask → bit ≤ 64 → ((k : ℕ) → k < bit → bit_at mask k ≡ 0) → NoQuoteIn text from (at + bit)
clear-to text at from mask bit m small below j low high = elim (cases_lt j at) [
  | inl lt ↦ m.before j low lt
  | inr le ↦ λ quote.
      let is : at + (j - at) ≡ j = omega (arith, le) in
      let here : slice_index text (at + (j - at)) ≡ 34 = ap (slice_index text) is ∙ quote in
      let set = m.each (j - at) (omega (arith, high, small, le)) (omega (arith, is, low)) here in
      absurd (omega (arith, set, below (j - at) (omega (arith, high, le))))
]

pub marked-next : (text : List ℕ) (at from mask bit : ℕ) → Marked text at from mask → bit_at mask bit ≡ 1 → ((k : ℕ) → k < bit → bit_at mask k ≡ 0) → NoQuoteIn text from (at + bit)
marked-next text at from mask bit m set below = clear-to text at from mask bit m (omega (arith, (m.only bit set).0)) below

-- and without a bit there is none among the 64 bytes
pub marked-none : (text : List ℕ) (at from mask : ℕ) → Marked text at from mask → mask ≡ 0 → NoQuoteIn text from (at + 64)
marked-none text at from mask m none = clear-to text at from mask 64 m (omega arith) (λ k lt. rw none (bit_at-zero k))

-- a quote is within the text
pub quote-within : (text : List ℕ) (place : ℕ) → slice_index text place ≡ 34 → place < length text
quote-within [] place quote = absurd (cc quote)
quote-within (x ∷ text) zero quote = omega arith
quote-within (x ∷ text) (suc place) quote =
    let lt = quote-within text place quote in
    omega (arith, lt)

-- what is left of a mask without its lowest bit comes after that
later : (at bit k mask next : ℕ) → ((j : ℕ) → j < bit → bit_at mask j ≡ 0) → bit_at next bit ≡ 0 → bit_at mask k ≡ 1 → bit_at next k ≡ 1 → at + bit + 1 ≤ at + k
later at bit k mask next below cleared set one = elim (cases_order k bit) [
  | inl is ↦ absurd (omega (arith, cleared, rw is at one))
  | inr apart ↦ elim apart [ inl lt ↦ absurd (omega (arith, below k lt, set)) | inr gt ↦ omega (arith, gt) ]
]

-- past the lowest bit
pub marked-past : (text : List ℕ) (at from mask bit next : ℕ) → Marked text at from mask → bit_at mask bit ≡ 1 → ((k : ℕ) → k < bit → bit_at mask k ≡ 0)
    → bit_at next bit ≡ 0 → ((k : ℕ) → k < 64 → k ≢ bit → bit_at next k ≡ bit_at mask k) → ((k : ℕ) → bit_at next k ≡ 1 → bit_at mask k ≡ 1)
    → Marked text at (at + bit + 1) next
marked-past text at from mask bit next m set below cleared kept fewer =
    let here = m.only bit set in
    record {
      each = λ k lt le quote. kept k (omega (arith, lt)) (λ is. absurd (omega (arith, le, is))) ∙ m.each k lt (omega (arith, here.1, le)) quote;
      only = λ k one. let b = m.only k (fewer k one) in (b.0, later at bit k mask next below cleared (fewer k one) one, b.2);
      before = λ j low high. absurd (omega (arith, low, high));
      low = omega (arith, here.0);
    }

-- no quote is among the bytes up to the next one
pub clear-between : (text : List ℕ) (from quote : ℕ) → NoQuoteIn text from quote → NoQuote (take (quote - from) (drop from text))
clear-between text from quote clear = no-quote-between text from (quote - from) (λ j lt. clear (from + j) (omega arith) (omega (arith, lt)))

-- nor among all that are left
pub clear-rest : (text : List ℕ) (from at : ℕ) → NoQuoteIn text from at → length text ≤ at → NoQuote (drop from text)
clear-rest text from at clear all = λ k lt quote.
    let byte : slice_index text (from + k) ≡ 34 = sym (get_or-drop from text k 0) ∙ quote in
    clear (from + k) (omega arith) (omega (arith, lt, all, length-drop from text)) byte

-- the place past a quote
pub past-quote-is : (start p : Place) (text : List ℕ) (from quote : ℕ) → p ≡ place_after start (take from text) → from ≤ quote → quote < length text → slice_index text quote ≡ 34
    → after_quote (place_after p (take (quote - from) (drop from text))) ≡ place_after start (take (quote + 1) text)
past-quote-is start p text from quote is low within mark =
    let k = quote - from in
    let there : from + k ≡ quote = omega (arith, low) in
    let end : quote + 1 ≡ from + (k + 1) = omega (arith, low) in
    let byte : slice_index text (from + k) ≡ 34 = ap (slice_index text) there ∙ mark in
    let past = past-byte start text from k 34 (omega (arith, there, within)) byte in
    sym (ap (λ n. place_after start (take n text)) end ∙ (past ∙ (one-quote (place_after (place_after start (take from text)) (take k (drop from text))) ∙ ap (λ q. after_quote (place_after q (take k (drop from text)))) (sym is))))

-- and that behind all bytes
pub scanned-all : (start p : Place) (text : List ℕ) (from : ℕ) → p ≡ place_after start (take from text) → place_after p (drop from text) ≡ place_after start text
scanned-all start p text from is = ap (λ q. place_after q (drop from text)) is ∙ past-all start text from
