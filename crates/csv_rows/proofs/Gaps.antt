-- Fields that stand some bytes apart.
use Rattle.std.proofs.Common.{◌≡◌, ◌<◌, ◌≤◌, ◌+◌, ◌-◌, take, drop, ℕ, zero, suc, List, [], ◌∷◌, ◌++◌, length, get_or, refl, ap, arith}
use Rattle.csv.specs.Records.{Rising, cut_from}
use Rattle.csv_rows.specs.Store.{Apart, cut_apart, field_start, next_start}

-- one more place makes one more field
pub apart-push : (gap start : ℕ) (ends : List ℕ) (end : ℕ) (bytes : List ℕ)
    → cut_apart gap start (ends ++ (end ∷ [])) bytes ≡ cut_apart gap start ends bytes ++ (take (end - next_start gap start ends) (drop (next_start gap start ends) bytes) ∷ [])
unfolding cut_apart next_start
apart-push gap start [] end bytes = refl
apart-push gap start (e ∷ ends) end bytes = rw (apart-push gap (e + gap) ends end bytes) refl

pub next-push : (gap start : ℕ) (ends : List ℕ) (end : ℕ) → next_start gap start (ends ++ (end ∷ [])) ≡ end + gap
unfolding next_start
next-push gap start [] end = refl
next-push gap start (e ∷ ends) end = next-push gap (e + gap) ends end

-- with no byte between them they are the fields that csv's records have
pub apart-none : (start : ℕ) (ends bytes : List ℕ) → cut_apart 0 start ends bytes ≡ cut_from start ends bytes
unfolding cut_apart cut_from
apart-none start [] bytes = refl
apart-none start (end ∷ ends) bytes =
    let same : end + 0 ≡ end = omega arith in
    rw (same, apart-none end ends bytes) refl

pub apart-length : (gap start : ℕ) (ends bytes : List ℕ) → length (cut_apart gap start ends bytes) ≡ length ends
unfolding cut_apart
apart-length gap start [] bytes = refl
apart-length gap start (end ∷ ends) bytes = ap suc (apart-length gap (end + gap) ends bytes)

-- and their places rise
pub apart-rising : (start : ℕ) (ends : List ℕ) (size : ℕ) → Rising start ends size → Apart 0 start ends size
unfolding Apart Rising
apart-rising start [] size h = omega (arith, h)
apart-rising start (end ∷ ends) size h =
    let same : end + 0 ≡ end = omega arith in
    (h.0, rw same (apart-rising end ends size h.1))

-- one more place that does not stand before the start of its field
pub apart-more : (gap start : ℕ) (ends : List ℕ) (end size : ℕ) → Apart gap start ends size → next_start gap start ends ≤ end → end ≤ size → Apart gap start (ends ++ (end ∷ [])) size
unfolding Apart next_start
apart-more gap start [] end size h low high = (low, omega (arith, high))
apart-more gap start (e ∷ ends) end size h low high = (h.0, apart-more gap (e + gap) ends end size h.1 low high)

-- where the fields may start
start-low : (gap start : ℕ) (ends : List ℕ) (size : ℕ) → Apart gap start ends size → start ≤ size + gap
unfolding Apart
start-low gap start [] size h = h
start-low gap start (end ∷ ends) size h =
    let low = h.0 in
    let more = start-low gap (end + gap) ends size h.1 in
    omega (arith, low, more)

-- where a field stands among the bytes
pub record StandsApart (gap start : ℕ) (ends bytes : List ℕ) (i : ℕ) : Type 0 where
  pub up : field_start gap start ends i ≤ get_or ends i 0
  pub within : get_or ends i 0 ≤ length bytes
  pub value : get_or (cut_apart gap start ends bytes) i [] ≡ take (get_or ends i 0 - field_start gap start ends i) (drop (field_start gap start ends i) bytes)

pub stands-apart : (gap start : ℕ) (ends bytes : List ℕ) (i : ℕ) → Apart gap start ends (length bytes) → i < length ends → StandsApart gap start ends bytes i
unfolding Apart cut_apart field_start
stands-apart gap start [] bytes i h lt = absurd (omega arith)
stands-apart gap start (end ∷ ends) bytes zero h lt =
    let more = start-low gap (end + gap) ends (length bytes) h.1 in
    record { up = h.0; within = omega (arith, more); value = refl }
stands-apart gap start (end ∷ ends) bytes (suc i) h lt =
    let s = stands-apart gap (end + gap) ends bytes i h.1 (omega arith) in
    record { up = s.up; within = s.within; value = s.value }

-- the first field starts at the start, and each other one behind the end of the one before
pub start-first : (gap start : ℕ) (ends : List ℕ) → field_start gap start ends 0 ≡ start
unfolding field_start
start-first gap start [] = refl
start-first gap start (end ∷ ends) = refl

pub start-next : (gap start : ℕ) (ends : List ℕ) (i d : ℕ) → i + 1 < length ends → field_start gap start ends (i + 1) ≡ get_or ends i d + gap
unfolding field_start
start-next gap start [] i d lt = absurd (omega arith)
start-next gap start (end ∷ ends) zero d lt = start-first gap (end + gap) ends
start-next gap start (end ∷ ends) (suc i) d lt =
    let same : suc i + 1 ≡ suc (i + 1) = omega arith in
    rw same (start-next gap (end + gap) ends i d (omega arith))
