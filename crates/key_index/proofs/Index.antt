-- What a search among slots finds, and what stays found.
use Rattle.std.proofs.Common.{◌≡◌, ◌<◌, ◌+◌, ◌-◌, ◌/◌, ◌^◌, ◌∙◌, ◌⊎◌, inl, inr, ℕ, zero, suc, List, [], ◌∷◌, ◌++◌, Some, refl, ap, sym, subst, arith, length, get_or, set}
use Rattle.std.proofs.lemmas.List.{get_or-set_other, get_or-set_same, get_or_default, length-append, length-set}
use Rattle.std.proofs.lemmas.Option.{get_or_from_slice_get, slice_get-get_or, slice_get_within}
use Rattle.std.proofs.Math.ListN.{get_or-append}
use Rattle.std.proofs.Math.Seq.{get_or-append_seam}
use Rattle.std.specs.List.{slice_get}
use Rattle.std.specs.BTreeMap.{BTreeMap}
use Rattle.std.specs.Global.{Vec}
use Rattle.key_index.specs.Index.{IsIndexed, IsLate, IsReached, Misses, free, hash, late_place, probe, reach, slot_at, slot_of}
use Rattle.key_index.specs.declared.table.Slot.{Slot}

pub three : (a b : ℕ) → (a < b) ⊎ ((a ≡ b) ⊎ (b < a))
three zero zero = inr (inl refl)
three zero (suc b) = inl (omega arith)
three (suc a) zero = inr (inr (omega arith))
three (suc a) (suc b) = more (three a b)
  where
    more : (a < b) ⊎ ((a ≡ b) ⊎ (b < a)) → (suc a < suc b) ⊎ ((suc a ≡ suc b) ⊎ (suc b < suc a))
    more (inl lt) = inl (omega (arith, lt))
    more (inr (inl e)) = inr (inl (ap suc e))
    more (inr (inr lt)) = inr (inr (omega (arith, lt)))

-- a search that came to a free slot, and one that went as far as it may, have not reached the key
pub not_reached_free : (slots : List Slot) (keys : List (List ℕ)) (key : List ℕ) (step place : ℕ) → ((s : ℕ) → s < step → Misses slots keys key s) → (slot_at slots (hash key) step).next ≡ 0
    → slice_get keys place ≡ Some key → IsReached slots (hash key) place → ⊥
not_reached_free slots keys key step place missed none e r = by (three r.steps step)
  where
    by : (r.steps < step) ⊎ ((r.steps ≡ step) ⊎ (step < r.steps)) → ⊥
    by (inl lt) = (missed r.steps lt).1 place r.there e
    by (inr (inl same)) = omega (arith, none, ap (λ (s : Slot). s.next) (ap (slot_at slots (hash key)) (sym same) ∙ r.there))
    by (inr (inr lt)) = omega (arith, none, r.path step lt)

pub not_reached_all : (slots : List Slot) (keys : List (List ℕ)) (key : List ℕ) (place : ℕ) → ((s : ℕ) → s < reach (length slots) → Misses slots keys key s)
    → slice_get keys place ≡ Some key → IsReached slots (hash key) place → ⊥
not_reached_all slots keys key place missed e r = (missed r.steps r.within).1 place r.there e

-- so it is not there
pub absent : (slots : List Slot) (late : BTreeMap (Vec ℕ) ℕ) (keys : List (List ℕ)) (key : List ℕ) → IsIndexed slots late keys
    → ((place : ℕ) → slice_get keys place ≡ Some key → IsReached slots (hash key) place → ⊥) → (IsLate late keys key → ⊥) → (place : ℕ) → slice_get keys place ≡ Some key → ⊥
absent slots late keys key indexed not_reached not_late place e = by (indexed.each place key e)
  where
    by : IsReached slots (hash key) place ⊎ IsLate late keys key → ⊥
    by (inl r) = not_reached place e r
    by (inr l) = not_late l

-- a free slot is taken at the end of a path
pub put_reached : (slots : List Slot) (h place step at : ℕ) → step < reach (length slots) → at ≡ probe (length slots) h step → at < length slots
    → ((s : ℕ) → s < step → 0 < (slot_at slots h s).next) → (slot_at slots h step).next ≡ 0 → IsReached (set slots at (slot_of h place)) h place
put_reached slots h place step at lt is within path none = record {
  steps = step;
  within = subst (λ n. step < reach n) (sym (length-set slots at (slot_of h place))) lt;
  there = ap (λ n. get_or new (probe n h step) free) (length-set slots at (slot_of h place)) ∙ ap (λ i. get_or new i free) (sym is) ∙ get_or-set_same slots at (slot_of h place) free within;
  path = λ s s_lt. subst (λ (x : Slot). 0 < x.next) (sym (kept_at s (path s s_lt))) (path s s_lt);
}
  where
    new : List Slot
    new = set slots at (slot_of h place)

    kept_at : (s : ℕ) → 0 < (slot_at slots h s).next → slot_at new h s ≡ slot_at slots h s
    kept_at s some =
        ap (λ n. get_or new (probe n h s) free) (length-set slots at (slot_of h place))
        ∙ get_or-set_other slots at (probe (length slots) h s) (slot_of h place) free
        (λ same. omega (arith, some, ap (λ (x : Slot). x.next) (ap (λ i. get_or slots i free) (same ∙ is)), none))

-- and what was reached stays so
pub put_kept : (slots : List Slot) (at : ℕ) (slot : Slot) → (get_or slots at free).next ≡ 0 → (h place : ℕ) → IsReached slots h place → IsReached (set slots at slot) h place
put_kept slots at slot none h place r = record {
  steps = r.steps;
  within = subst (λ n. r.steps < reach n) (sym (length-set slots at slot)) r.within;
  there = kept_at r.steps (subst (λ (x : Slot). 0 < x.next) (sym r.there) (omega arith)) ∙ r.there;
  path = λ s lt. subst (λ (x : Slot). 0 < x.next) (sym (kept_at s (r.path s lt))) (r.path s lt);
}
  where
    new : List Slot
    new = set slots at slot

    kept_at : (s : ℕ) → 0 < (slot_at slots h s).next → slot_at new h s ≡ slot_at slots h s
    kept_at s some =
        ap (λ n. get_or new (probe n h s) free) (length-set slots at slot)
        ∙ get_or-set_other slots at (probe (length slots) h s) slot free
        (λ same. omega (arith, some, ap (λ (x : Slot). x.next) (ap (λ i. get_or slots i free) same), none))

-- the slot that was read
pub slot_read : (slots : List Slot) (size h at step : ℕ) (slot : Slot) → size ≡ length slots → at ≡ probe size h step → at < size → slot ≡ get_or slots at slot → slot_at slots h step ≡ slot
slot_read slots size h at step slot same is within read =
    ap (λ n. get_or slots (probe n h step) free) (sym same)
    ∙ ap (λ i. get_or slots i free) (sym is)
    ∙ get_or_default slots at free slot (omega (arith, same, within))
    ∙ sym read

-- one more step
pub more_steps : {P : ℕ → Type 0} (n : ℕ) → ((s : ℕ) → s < n → P s) → P n → (s : ℕ) → s < n + 1 → P s
more_steps {P} n before here s lt = by (three s n)
  where
    by : (s < n) ⊎ ((s ≡ n) ⊎ (n < s)) → P s
    by (inl less) = before s less
    by (inr (inl same)) = subst P (sym same) here
    by (inr (inr more)) = absurd (omega (arith, lt, more))

-- a slot of another half of the hash, or of a place that has another key
pub misses : (slots : List Slot) (keys : List (List ℕ)) (key : List ℕ) (step : ℕ) (slot : Slot) → slot_at slots (hash key) step ≡ slot → (slot.next ≡ 0 → ⊥)
    → (slot.tag ≡ hash key / 2 ^ 32 → slice_get keys (slot.next - 1) ≡ Some key → ⊥) → Misses slots keys key step
misses slots keys key step slot read some other = (subst (λ (x : Slot). 0 < x.next) (sym read) (omega (arith, some)), λ place same there. no place (sym read ∙ same) there)
  where
    no : (place : ℕ) → slot ≡ slot_of (hash key) place → slice_get keys place ≡ Some key → ⊥
    no place same there =
        let at : slot.next - 1 ≡ place = omega (arith, ap (λ (x : Slot). x.next) same) in
        other (ap (λ (x : Slot). x.tag) same) (ap (slice_get keys) at ∙ there)

-- a key of the ordered map stays there as others come
pub late_more : (late : BTreeMap (Vec ℕ) ℕ) (keys : List (List ℕ)) (key k : List ℕ) → IsLate late keys k → IsLate late (keys ++ key ∷ []) k
late_more late keys key k l = record {
  place = l.place;
  there = l.there;
  same =
      slice_get-get_or (keys ++ key ∷ []) l.place [] (omega (arith, slice_get_within keys l.place k l.same, length-append keys (key ∷ [])))
      ∙ ap Some (get_or-append keys (key ∷ []) [] l.place (slice_get_within keys l.place k l.same) ∙ get_or_from_slice_get keys l.place k [] l.same);
}

-- a key that comes last
pub indexed_more : (old new : List Slot) (late late' : BTreeMap (Vec ℕ) ℕ) (keys : List (List ℕ)) (key : List ℕ) → IsIndexed old late keys
    → ((h p : ℕ) → IsReached old h p → IsReached new h p) → ((k : List ℕ) → IsLate late keys k → IsLate late' keys k)
    → IsReached new (hash key) (length keys) ⊎ ((late_place late' key ≡ Some (length keys)) ⊎ IsLate late' keys key)
    → IsIndexed new late' (keys ++ key ∷ [])
indexed_more old new late late' keys key indexed kept late_kept entered = record { each = λ place k e. by place k e (three place (length keys)) }
  where
    last : slice_get (keys ++ key ∷ []) (length keys) ≡ Some key
    last = slice_get-get_or (keys ++ key ∷ []) (length keys) [] (omega (arith, length-append keys (key ∷ []))) ∙ ap Some (get_or-append_seam keys key [] [])

    was : (place : ℕ) (k : List ℕ) → IsReached old (hash k) place ⊎ IsLate late keys k → IsReached new (hash k) place ⊎ IsLate late' (keys ++ key ∷ []) k
    was place k (inl r) = inl (kept (hash k) place r)
    was place k (inr l) = inr (late_more late' keys key k (late_kept k l))

    here : IsReached new (hash key) (length keys) ⊎ ((late_place late' key ≡ Some (length keys)) ⊎ IsLate late' keys key)
        → IsReached new (hash key) (length keys) ⊎ IsLate late' (keys ++ key ∷ []) key
    here (inl r) = inl r
    here (inr (inl e)) = inr (record { place = length keys; there = e; same = last })
    here (inr (inr l)) = inr (late_more late' keys key key l)

    by : (place : ℕ) (k : List ℕ) → slice_get (keys ++ key ∷ []) place ≡ Some k → (place < length keys) ⊎ ((place ≡ length keys) ⊎ (length keys < place))
        → IsReached new (hash k) place ⊎ IsLate late' (keys ++ key ∷ []) k
    by place k e (inl less) =
        let same : get_or keys place k ≡ k = sym (get_or-append keys (key ∷ []) k place less) ∙ get_or_from_slice_get (keys ++ key ∷ []) place k k e in
        was place k (indexed.each place k (slice_get-get_or keys place k less ∙ ap Some same))
    by place k e (inr (inl same)) =
        let is : key ≡ k = sym (get_or-append_seam keys key [] k) ∙ ap (λ n. get_or (keys ++ key ∷ []) n k) (sym same) ∙ get_or_from_slice_get (keys ++ key ∷ []) place k k e in
        subst (λ (p : ℕ). IsReached new (hash k) p ⊎ IsLate late' (keys ++ key ∷ []) k) (sym same)
        (subst (λ (x : List ℕ). IsReached new (hash x) (length keys) ⊎ IsLate late' (keys ++ key ∷ []) x) is (here entered))
    by place k e (inr (inr more)) = absurd (omega (arith, more, slice_get_within (keys ++ key ∷ []) place k e, length-append keys (key ∷ [])))

pub indexed_kept : (old new : List Slot) (late late' : BTreeMap (Vec ℕ) ℕ) (keys : List (List ℕ)) → IsIndexed old late keys → ((h p : ℕ) → IsReached old h p → IsReached new h p)
    → ((k : List ℕ) → IsLate late keys k → IsLate late' keys k) → IsIndexed new late' keys
indexed_kept old new late late' keys indexed kept late_kept = record { each = λ place k e. by place k (indexed.each place k e) }
  where
    by : (place : ℕ) (k : List ℕ) → IsReached old (hash k) place ⊎ IsLate late keys k → IsReached new (hash k) place ⊎ IsLate late' keys k
    by place k (inl r) = inl (kept (hash k) place r)
    by place k (inr l) = inr (late_kept k l)

-- what was found stays found
pub still_found : (old new : List Slot) (late late' : BTreeMap (Vec ℕ) ℕ) (keys : List (List ℕ)) (key : List ℕ) (place : ℕ) → ((h p : ℕ) → IsReached old h p → IsReached new h p)
    → ((k : List ℕ) → IsLate late keys k → IsLate late' keys k) → IsReached old (hash key) place ⊎ IsLate late keys key → IsReached new (hash key) place ⊎ IsLate late' keys key
still_found old new late late' keys key place kept late_kept (inl r) = inl (kept (hash key) place r)
still_found old new late late' keys key place kept late_kept (inr l) = inr (late_kept key l)

-- and a key that stands at the place at which it was entered is found
pub entered_is : (slots : List Slot) (late : BTreeMap (Vec ℕ) ℕ) (keys : List (List ℕ)) (got key : List ℕ) (place : ℕ) → slice_get keys place ≡ Some got → slice_get keys place ≡ Some key
    → IsReached slots (hash got) place ⊎ ((late_place late got ≡ Some place) ⊎ IsLate late keys got) → IsReached slots (hash key) place ⊎ IsLate late keys key
entered_is slots late keys got key place at e entered = subst (λ (k : List ℕ). IsReached slots (hash k) place ⊎ IsLate late keys k) (some_same got key (sym at ∙ e)) (by entered)
  where
    some_same : (a b : List ℕ) → Some a ≡ Some b → a ≡ b
    some_same a b e = cc

    by : IsReached slots (hash got) place ⊎ ((late_place late got ≡ Some place) ⊎ IsLate late keys got) → IsReached slots (hash got) place ⊎ IsLate late keys got
    by (inl r) = inl r
    by (inr (inl there)) = inr (record { place = place; there = there; same = at })
    by (inr (inr l)) = inr l
