-- What a scan for quotes knows of the ends of lines between two quotes.
use Rattle.std.proofs.Common.{◌≡◌, ◌≢◌, ◌<◌, ◌≤◌, ◌+◌, ◌-◌, ◌∙◌, ℕ, List, [], ◌∷◌, length, take, drop, slice_index, refl, sym, ap, inl, inr, arith}
use Rattle.std.specs.Prelude.{◌==◌, ◌||◌}
use Rattle.std.proofs.lemmas.Bool.{cases_Bool}
use Rattle.std.proofs.lemmas.List.{get_or-take, length-take}
use Rattle.std.proofs.Math.Seq.{take-add}
use Rattle.csv_rows.specs.Places.{NoQuote, after_other, place_after}
use Rattle.csv_rows.specs.declared.place.Place.{Place}
use Rattle.csv_rows.specs.declared.place.Place.TheVariants as place
use Rattle.csv_rows.proofs.Scans.{no-quote-head, no-quote-tail, place-append, still-quoted}

-- a byte that is no quote begins no quoted text
other-outside : (p : Place) (c : ℕ) → p ≢ place.Quoted → after_other p c ≢ place.Quoted
other-outside place.Quoted c h = absurd (h refl)
other-outside place.Opens c h = elim (cases_Bool ((c == 44) || (c == 13) || (c == 10))) [ inl e ↦ rw e (λ is. cc is) | inr e ↦ rw e (λ is. cc is) ]
other-outside place.Inside c h = elim (cases_Bool ((c == 44) || (c == 13) || (c == 10))) [ inl e ↦ rw e (λ is. cc is) | inr e ↦ rw e (λ is. cc is) ]

pub others-outside : (p : Place) (xs : List ℕ) → NoQuote xs → p ≢ place.Quoted → place_after p xs ≢ place.Quoted
unfolding place_after
others-outside p [] h outer = outer
others-outside p (x ∷ xs) h outer = rw (no-quote-head x xs h) (others-outside (after_other p x) xs (no-quote-tail x xs h) (other-outside p x outer))

-- the front of bytes without a quote has none
pub no-quote-front : (k n : ℕ) (xs : List ℕ) → k ≤ n → NoQuote (take n xs) → NoQuote (take k xs)
no-quote-front k n xs le h = λ j lt is.
    let short : j < k = omega (arith, length-take k xs, lt) in
    let long : j < length (take n xs) = omega (arith, length-take n xs, length-take k xs, lt, le) in
    let a : slice_index (take k xs) j ≡ slice_index xs j = get_or-take k xs j 0 short in
    let b : slice_index (take n xs) j ≡ slice_index xs j = get_or-take n xs j 0 (omega (arith, short, le)) in
    h j long (b ∙ (sym a ∙ is))

-- outside quotes at a place, and so up to the next quote
pub outside-on : (xs : List ℕ) (from k n : ℕ) → k ≤ n → NoQuote (take n (drop from xs)) → place_after place.Opens (take from xs) ≢ place.Quoted
    → place_after place.Opens (take (from + k) xs) ≢ place.Quoted
outside-on xs from k n le h outer =
    let all = ap (place_after place.Opens) (take-add from k xs) ∙ place-append place.Opens (take from xs) (take k (drop from xs)) in
    λ is. others-outside (place_after place.Opens (take from xs)) (take k (drop from xs)) (no-quote-front k n (drop from xs) le h) outer (sym all ∙ is)

-- between quotes at a place, and so up to the next quote
pub quoted-on : (xs : List ℕ) (from at n : ℕ) → from ≤ at → at ≤ from + n → NoQuote (take n (drop from xs)) → place_after place.Opens (take from xs) ≡ place.Quoted
    → place_after place.Opens (take at xs) ≡ place.Quoted
quoted-on xs from at n low high h quoted =
    let same : from + (at - from) ≡ at = omega (arith, low) in
    let front = no-quote-front (at - from) n (drop from xs) (omega (arith, low, high)) h in
    rw same at (still-quoted place.Opens xs from (at - from) quoted front)

-- one byte more
pub one-more : (p : Place) (xs : List ℕ) (at : ℕ) → place_after (place_after p (take at xs)) (take (at + 1 - at) (drop at xs)) ≡ place_after p (take (at + 1) xs)
one-more p xs at =
    let one : at + 1 - at ≡ 1 = omega arith in
    ap (λ n. place_after (place_after p (take at xs)) (take n (drop at xs))) one ∙ sym (ap (place_after p) (take-add at 1 xs) ∙ place-append p (take at xs) (take 1 (drop at xs)))
