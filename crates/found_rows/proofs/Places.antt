-- Places of fields, of which one more is put behind the others.
use Rattle.std.proofs.Common.{◌≡◌, ◌<◌, ◌≤◌, ◌+◌, ◌-◌, ◌∙◌, ◌++◌, ℕ, true, All, List, [], ◌∷◌, drop, get_or, length, map, set, take, refl, ap, inl, inr, arith, length-append}
use Rattle.std.proofs.lemmas.Bool.{cases_Bool}
use Rattle.std.proofs.lemmas.List.{drop-append-le, get_or-map, get_or-take, length-drop, length-map, length-take, map-append, take-append-le, take_all, take_more_set}
use Rattle.std.proofs.lemmas.List.Elements.{All-head, All-push, All-tail}
use Rattle.found_rows.specs.Spans.{IsSpan, field_in}
use Rattle.found_rows.specs.Written.{between}
use Rattle.found_rows.specs.declared.spans.Span.{Span}

-- the bytes between two places of a text that goes on
pub between-grown : (bytes more : List ℕ) (from to : ℕ) → from ≤ to → to ≤ length bytes → between from to (bytes ++ more) ≡ between from to bytes
between-grown bytes more from to low high =
    ap (take (to - from)) (drop-append-le from bytes more (omega (arith, low, high)))
    ∙ take-append-le (to - from) (drop from bytes) more (omega (arith, length-drop from bytes, high))

-- a field that was copied stays as it is as more are copied
field-same : (text copied more : List ℕ) (span : Span) → IsSpan text copied span → field_in text (copied ++ more) span ≡ field_in text copied span
field-same text copied more span h = elim (cases_Bool span.is_copied) [
  | inl e ↦ rw e (between-grown copied more span.start span.end h.order (rw e at h.within))
  | inr e ↦ rw e refl
]

span-same : (text copied more : List ℕ) (span : Span) → IsSpan text copied span → IsSpan text (copied ++ more) span
span-same text copied more span h = elim (cases_Bool span.is_copied) [
  | inl e ↦ record { order = h.order; within = rw e (omega (arith, rw e at h.within, length-append copied more)) }
  | inr e ↦ record { order = h.order; within = rw e (rw e at h.within) }
]

fields-same : (text copied more : List ℕ) (spans : List Span) → All (IsSpan text copied) spans → map (field_in text (copied ++ more)) spans ≡ map (field_in text copied) spans
fields-same text copied more [] h = refl
fields-same text copied more (span ∷ spans) h = λ i. field-same text copied more span (All-head (IsSpan text copied) span spans h) i ∷ fields-same text copied more spans (All-tail (IsSpan text copied) span spans h) i

spans-same : (text copied more : List ℕ) (spans : List Span) → All (IsSpan text copied) spans → All (IsSpan text (copied ++ more)) spans
spans-same text copied more spans h = λ at d lt. span-same text copied more (get_or spans at d) (h at d lt)

module _ (text copied more : List ℕ) (list : List Span) (count : ℕ) (span : Span) (room : count < length list) (old : All (IsSpan text copied) (take count list)) (new : IsSpan text (copied ++ more) span) where
  next : take (count + 1) (set list count span) ≡ take count list ++ span ∷ []
  next = take_more_set list count span room

  -- the places with one more, after more was copied
  pub pushed-each : All (IsSpan text (copied ++ more)) (take (count + 1) (set list count span))
  pushed-each =
      rw next (All-push (IsSpan text (copied ++ more)) (take count list) span (spans-same text copied more (take count list) old) new)

  pub pushed-fields : map (field_in text (copied ++ more)) (take (count + 1) (set list count span)) ≡ map (field_in text copied) (take count list) ++ field_in text (copied ++ more) span ∷ []
  pushed-fields =
      ap (map (field_in text (copied ++ more))) next ∙ map-append (field_in text (copied ++ more)) (take count list) (span ∷ [])
      ∙ ap (λ (fs : List (List ℕ)). fs ++ field_in text (copied ++ more) span ∷ []) (fields-same text copied more (take count list) old)

-- how many fields there are
pub fields-many : (text copied : List ℕ) (list : List Span) (count : ℕ) → count ≤ length list → count ≡ length (map (field_in text copied) (take count list))
fields-many text copied list count le = omega (arith, length-map (take count list) (field_in text copied), length-take count list, le)

-- the field at a place
pub field-at : (text copied : List ℕ) (list : List Span) (count at : ℕ) (d : Span) → at < count → count ≤ length list → get_or (map (field_in text copied) (take count list)) at [] ≡ field_in text copied (get_or list at d)
field-at text copied list count at d lt le =
    get_or-map (field_in text copied) (take count list) at d [] (omega (arith, length-take count list, lt, le)) ∙ ap (field_in text copied) (get_or-take count list at d lt)

-- behind the front
drop-front : (front back : List ℕ) → drop (length front) (front ++ back) ≡ back
drop-front [] back = refl
drop-front (x ∷ front) back = drop-front front back

-- the field that was copied last
last-copied : (copied written : List ℕ) → between (length copied) (length (copied ++ written)) (copied ++ written) ≡ written
last-copied copied written =
    let size = length-append copied written in
    ap (take (length (copied ++ written) - length copied)) (drop-front copied written) ∙ take_all (length (copied ++ written) - length copied) written (omega (arith, size))

-- the fields with one more that was copied
pub pushed-written : (text copied written now : List ℕ) (list : List Span) (count start end : ℕ) → count < length list → All (IsSpan text copied) (take count list) → now ≡ copied ++ written → start ≡ length copied → end ≡ length now
    → map (field_in text now) (take (count + 1) (set list count (record { start = start; end = end; is_copied = true }))) ≡ map (field_in text copied) (take count list) ++ written ∷ []
pushed-written text copied written now list count start end room old is first last =
    rw (last, first, is) (
    let span : Span = record { start = length copied; end = length (copied ++ written); is_copied = true } in
    let size = length-append copied written in
    let within : IsSpan text (copied ++ written) span = record { order = omega (arith, size); within = omega arith } in
    pushed-fields text copied written list count span room old within ∙ ap (λ (f : List ℕ). map (field_in text copied) (take count list) ++ f ∷ []) (last-copied copied written)
    )
