-- What a scan for quotes makes of a text, from each place.
use Rattle.std.proofs.Common.{◌≡◌, ◌≢◌, ◌<◌, ◌+◌, ◌-◌, ◌∙◌, ℕ, zero, suc, false, List, [], ◌∷◌, ◌++◌, length, take, drop, slice_index, refl, sym, ap, inl, inr, arith}
use Rattle.std.specs.Prelude.{◌==◌, ◌||◌, if◌then◌else◌}
use Rattle.std.proofs.lemmas.Bool.{cases_Bool, eqb-true}
use Rattle.std.proofs.lemmas.List.{drop_more, get_or-drop, get_or-take, length-take, take-append-drop, take_more}
use Rattle.std.proofs.Math.Seq.{take-add}
use Rattle.csv_rows.specs.Places.{NoQuote, after_other, after_quote, is_quoted_place, place_after}
use Rattle.csv_rows.specs.declared.place.Place.{Place}
use Rattle.csv_rows.specs.declared.place.Place.TheVariants as place

-- a run over two texts is one over the second from the end of the first
pub place-append : (p : Place) (a b : List ℕ) → place_after p (a ++ b) ≡ place_after (place_after p a) b
unfolding place_after
place-append p [] b = refl
place-append p (c ∷ a) b = place-append (if c == 34 then after_quote p else after_other p c) a b

pub place-none : (p : Place) → place_after p [] ≡ p
unfolding place_after
place-none p = refl

pub place-empty : (p : Place) (xs : List ℕ) → length xs ≡ 0 → place_after p xs ≡ p
unfolding place_after
place-empty p [] h = refl
place-empty p (x ∷ xs) h = absurd (omega arith)

-- only the last of the bytes that are no quotes counts
other-other : (p : Place) (x y : ℕ) → after_other (after_other p x) y ≡ after_other p y
other-other place.Quoted x y = refl
other-other place.Opens x y = elim (cases_Bool ((x == 44) || (x == 13) || (x == 10))) [ inl e ↦ rw e refl | inr e ↦ rw e refl ]
other-other place.Inside x y = elim (cases_Bool ((x == 44) || (x == 13) || (x == 10))) [ inl e ↦ rw e refl | inr e ↦ rw e refl ]

pub no-quote-head : (x : ℕ) (xs : List ℕ) → NoQuote (x ∷ xs) → (x == 34) ≡ false
no-quote-head x xs h = elim (cases_Bool (x == 34)) [ inl e ↦ absurd (h 0 (omega arith) (eqb-true x 34 e)) | inr e ↦ e ]

pub no-quote-tail : (x : ℕ) (xs : List ℕ) → NoQuote (x ∷ xs) → NoQuote xs
no-quote-tail x xs h = λ k lt. h (suc k) (omega arith)

pub others-last : (p : Place) (xs : List ℕ) → NoQuote xs → 0 < length xs → place_after p xs ≡ after_other p (slice_index xs (length xs - 1))
unfolding place_after
others-last p [] h some = absurd (omega arith)
others-last p (x ∷ []) h some = rw (no-quote-head x [] h) refl
others-last p (x ∷ y ∷ xs) h some =
    let more = others-last (after_other p x) (y ∷ xs) (no-quote-tail x (y ∷ xs) h) (omega arith) in
    let at : length (x ∷ y ∷ xs) - 1 ≡ suc (length (y ∷ xs) - 1) = omega arith in
    rw (no-quote-head x (y ∷ xs) h, at) (more ∙ other-other p x (slice_index (y ∷ xs) (length (y ∷ xs) - 1)))

quoted-others : (xs : List ℕ) → NoQuote xs → place_after place.Quoted xs ≡ place.Quoted
unfolding place_after
quoted-others [] h = refl
quoted-others (x ∷ xs) h = rw (no-quote-head x xs h) (quoted-others xs (no-quote-tail x xs h))

-- a text is what stands before a byte, the byte, and what stands after it
pub split-at : (xs : List ℕ) (k c : ℕ) → k < length xs → slice_index xs k ≡ c → xs ≡ take k xs ++ (c ∷ drop (k + 1) xs)
split-at [] k c lt is = absurd (omega arith)
split-at (x ∷ xs) zero c lt is = ap (λ y. y ∷ xs) is
split-at (x ∷ xs) (suc k) c lt is =
    let same : suc k + 1 ≡ suc (k + 1) = omega arith in
    rw same (ap (λ ys. x ∷ ys) (split-at xs k c (omega arith) is))

-- past a byte of a text, and what stands before it from a place on
pub past-byte : (p : Place) (xs : List ℕ) (at k c : ℕ) → at + k < length xs → slice_index xs (at + k) ≡ c
    → place_after p (take (at + (k + 1)) xs) ≡ place_after (place_after (place_after p (take at xs)) (take k (drop at xs))) (c ∷ [])
past-byte p xs at k c lt is =
    let same : at + (k + 1) ≡ (at + k) + 1 = omega arith in
    rw (same, take_more xs (at + k) 0 lt, is, place-append p (take (at + k) xs) (c ∷ []), take-add at k xs, place-append p (take at xs) (take k (drop at xs))) refl

pub past-all : (p : Place) (xs : List ℕ) (at : ℕ) → place_after (place_after p (take at xs)) (drop at xs) ≡ place_after p xs
past-all p xs at = sym (place-append p (take at xs) (drop at xs)) ∙ ap (place_after p) (take-append-drop at xs)

pub one-quote : (p : Place) → place_after p (34 ∷ []) ≡ after_quote p
unfolding place_after
one-quote p = refl

-- a line feed between quotes
pub one-line : place_after place.Quoted (10 ∷ []) ≡ place.Quoted
unfolding place_after
one-line = refl

-- a line feed makes all places outside quotes one
line-any : (p : Place) (xs : List ℕ) → place_after p (10 ∷ xs) ≡ (if is_quoted_place p then place_after place.Quoted (10 ∷ xs) else place_after place.Opens (10 ∷ xs))
unfolding place_after
line-any place.Quoted xs = refl
line-any place.Opens xs = refl
line-any place.Inside xs = refl

-- so a run over two texts, of which the second begins with a line feed, is known from two runs over each
pub halves-at : (p q r : Place) (xs front back : List ℕ) (at : ℕ) → at < length xs → slice_index xs at ≡ 10 → front ≡ take at xs → back ≡ drop at xs
    → q ≡ place_after place.Quoted back → r ≡ place_after place.Opens back
    → (if is_quoted_place (place_after p front) then q else r) ≡ place_after p xs
halves-at p q r xs front back at lt line is-front is-back is-q is-r =
    let rest : drop at xs ≡ 10 ∷ drop (at + 1) xs = drop_more xs at 0 lt ∙ ap (λ (y : ℕ). y ∷ drop (at + 1) xs) line in
    let any = line-any (place_after p (take at xs)) (drop (at + 1) xs) in
    rw (is-q, is-r, is-front, is-back, rest) (sym any ∙ (ap (place_after (place_after p (take at xs))) (sym rest) ∙ past-all p xs at))

-- the bytes up to a place have no quote
pub no-quote-between : (xs : List ℕ) (at k : ℕ) → ((j : ℕ) → j < k → slice_index xs (at + j) ≢ 34) → NoQuote (take k (drop at xs))
no-quote-between xs at k h = λ j lt is.
    let short : j < k = omega (arith, length-take k (drop at xs)) in
    let read : slice_index (take k (drop at xs)) j ≡ slice_index xs (at + j) = get_or-take k (drop at xs) j 0 short ∙ get_or-drop at xs j 0 in
    h j short (sym read ∙ is)

-- up to the next quote a text between quotes stays so
pub still-quoted : (p : Place) (xs : List ℕ) (at k : ℕ) → place_after p (take at xs) ≡ place.Quoted → NoQuote (take k (drop at xs)) → place_after p (take (at + k) xs) ≡ place.Quoted
still-quoted p xs at k here h =
    let all = ap (place_after p) (take-add at k xs) ∙ place-append p (take at xs) (take k (drop at xs)) in
    all ∙ (ap (λ (q : Place). place_after q (take k (drop at xs))) here ∙ quoted-others (take k (drop at xs)) h)

-- a quote behind a line feed is at another place
pub moved : (xs : List ℕ) (i more : ℕ) → slice_index xs i ≡ 10 → slice_index xs (i + more) ≡ 34 → 0 < more
moved xs i zero line quote =
    let same : i + 0 ≡ i = omega arith in
    let here = rw same at quote in
    absurd (omega (arith, line, here))
moved xs i (suc more) line quote = omega arith
