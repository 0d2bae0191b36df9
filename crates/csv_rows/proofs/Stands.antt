-- Where the fields of a record stand in its text, as far as it follows from the fields and the text. The places that a
-- record keeps are not known to rise, and a field of places that fall is empty.
use Rattle.std.proofs.Common.{◌⊎◌, inl, inr, ◌≡◌, ◌≤◌, ◌<◌, ◌-◌, ◌+◌, ◌∙◌, ℕ, zero, suc, List, [], ◌∷◌, ◌++◌, take, drop, length, get_or, min, refl, ap, sym, arith}
use Rattle.std.proofs.lemmas.List.{drop-drop, length-drop, length-take, length-take-le}
use Rattle.csv.specs.Records.{cut_from, last_end, prev}
use Rattle.csv.proofs.RecordFacts.{cut-more, cut-take, field-cut, field-get, prev-first, rising-more}
use Rattle.csv_rows.specs.Store.{Covers}

-- the field after some others starts where they end
pub prev-after : (s : ℕ) (ends : List ℕ) (i : ℕ) → i < length ends → prev s ends (i + 1) ≡ get_or ends i 0
unfolding prev
prev-after s [] i lt = absurd (omega arith)
prev-after s (e ∷ []) zero lt = refl
prev-after s (e ∷ f ∷ es) zero lt = refl
prev-after s (e ∷ es) (suc i) lt =
    let step : suc i + 1 ≡ suc (i + 1) = omega arith in
    rw step (prev-after e es i (omega arith))

-- a place as one more end cuts off the bytes from the last end to it
pub cut-at : (s : ℕ) (ends : List ℕ) (place : ℕ) (xs : List ℕ)
    → cut_from s (ends ++ (place ∷ [])) xs ≡ cut_from s ends xs ++ (take (place - last_end s ends) (drop (last_end s ends) xs) ∷ [])
unfolding cut_from last_end
cut-at s [] place xs = refl
cut-at s (e ∷ es) place xs = rw (cut-at e es place xs) refl

-- the front of a list, by its own length
take-own : {A : Type 0} (n : ℕ) (xs : List A) → take (length (take n xs)) xs ≡ take n xs
take-own zero xs = refl
take-own (suc n) [] = refl
take-own (suc n) (x ∷ xs) = ap (λ ys. x ∷ ys) (take-own n xs)

-- a place in a text: where the fields in front end, or the end of the text if that comes first
abbrev pub placed : List ℕ → List ℕ → ℕ → ℕ
placed ends text i = min (prev 0 ends i) (length text)

-- a field stands at its place, and the next one at its end
pub record Stands (ends text : List ℕ) (i : ℕ) (field : List ℕ) : Type 0 where
  pub bytes : field ≡ take (length field) (drop (placed ends text i) text)
  pub next : placed ends text i + length field ≡ placed ends text (i + 1)

-- so does one whose places rise from within the text
stands-at : (ends text : List ℕ) (i p e : ℕ) (field : List ℕ) → prev 0 ends i ≡ p → prev 0 ends (i + 1) ≡ e → field ≡ take (e - p) (drop p text)
    → p ≤ e → p ≤ length text → Stands ends text i field
stands-at ends text i p e field start end is up within =
    let here : min p (length text) ≡ p = omega (arith, within) in
    let size : length field ≡ min (e - p) (length text - p) = ap length is ∙ (length-take (e - p) (drop p text) ∙ ap (λ n. min (e - p) n) (length-drop p text)) in
    record {
      bytes = rw (start, here) (is ∙ (sym (take-own (e - p) (drop p text)) ∙ sym (ap (λ f. take (length f) (drop p text)) is)));
      next = rw (start, end, here) (omega (arith, size, up, within));
    }

-- the places of a field rise from within the text if it has bytes, and those of the first field always do
pub field-stands : (ends text : List ℕ) (i : ℕ) (field : List ℕ) → i < length ends → get_or (cut_from 0 ends text) i [] ≡ field
    → (i ≡ 0) ⊎ (0 < length field) → Stands ends text i field
field-stands ends text i field lt is tied =
    let p = prev 0 ends i in
    let e = get_or ends i 0 in
    let here : field ≡ take (e - p) (drop p text) = sym is ∙ field-get (cut_from 0 ends text) i _ (field-cut 0 ends text i lt) in
    let size : length field ≡ min (e - p) (length text - p) = ap length here ∙ (length-take (e - p) (drop p text) ∙ ap (λ n. min (e - p) n) (length-drop p text)) in
    let bounds : (p ≤ e) × (p ≤ length text) = elim tied [
      | inl z ↦ let first : prev 0 ends i ≡ 0 = rw z (prev-first ends) in (omega (arith, first), omega (arith, first))
      | inr up ↦ (omega (arith, size, up), omega (arith, size, up))
    ] in
    stands-at ends text i p e field refl (prev-after 0 ends i lt) here bounds.0 bounds.1

-- before any field
pub placed-first : (ends text : List ℕ) → placed ends text 0 ≡ 0
placed-first ends text =
    let first = prev-first ends in
    rw first (omega arith)

-- the end of a field that stands in the text behind from, as one more end
pub push-stands : (ends xs row_ends text field : List ℕ) (from end i : ℕ) → Covers ends end → end ≡ from + placed row_ends text i → drop from xs ≡ text
    → Stands row_ends text i field → cut_from 0 (ends ++ ((end + length field) ∷ [])) xs ≡ cut_from 0 ends xs ++ (field ∷ [])
push-stands ends xs row_ends text field from end i covers at behind stands =
    let size : end + length field - end ≡ length field = omega arith in
    let rest : drop end xs ≡ drop (placed row_ends text i) text = rw (at, ← drop-drop (placed row_ends text i) from xs, behind) refl in
    let last = covers.1 in
    let cut = cut-at 0 ends (end + length field) xs in
    let cut2 = rw (last, size, rest) at cut in
    cut2 ∙ ap (λ f. cut_from 0 ends xs ++ (f ∷ [])) (sym stands.bytes)

-- after a text is put behind some bytes and the ends of some of its fields behind theirs: what those fields end with is
-- all that need be kept
pub front-kept : (ends more xs text : List ℕ) (end : ℕ) (fields : List (List ℕ)) → Covers ends (length xs) → Covers more end → end ≤ length (xs ++ text)
    → cut_from 0 more (xs ++ text) ≡ cut_from 0 ends (xs ++ text) ++ fields
    → Covers more (length (take end (xs ++ text))) × (cut_from 0 more (take end (xs ++ text)) ≡ cut_from 0 ends xs ++ fields)
front-kept ends more xs text end fields old new within is =
    let size = length-take-le end (xs ++ text) within in
    let rising = rising-more 0 more end (length (xs ++ text)) new.0 within in
    let low : last_end 0 more ≤ end = omega (arith, new.1) in
    let kept = cut-take 0 more (xs ++ text) end rising low within in
    (rw size new, kept ∙ rw (cut-more 0 ends xs text old.0) at is)
