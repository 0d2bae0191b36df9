-- How the groups of a list follow its places.
use Rattle.std.proofs.Common.{◌≡◌, ◌≤◌, ◌<◌, ◌-◌, ◌+◌, ℕ, zero, suc, List, [], ◌∷◌, ◌++◌, take, drop, length, get_or, refl, ap, arith}
use Rattle.std.proofs.lemmas.List.{drop-append-le, get_or-drop, get_or-take, length-append, length-drop, length-take-le, take-append-le, take_all}
use Rattle.csv.specs.Records.{Rising, cut_from, last_end, prev}
use Rattle.csv.proofs.RecordFacts.{field-bounds, cut-end, cut-more, last-append, rising-end, rising-first, rising-more}
use Rattle.csv_rows.specs.Records.{field_of, record_at}
use Rattle.csv_rows.specs.Store.{Covers, IsStore, cut_apart, field_start, group_from, stored, stored_apart}
use Rattle.csv_rows.proofs.Gaps.{apart-length, apart-none, stands-apart}

-- one group for each place
pub group-length : {A : Type 0} (start : ℕ) (ends : List ℕ) (xs : List A) → length (group_from start ends xs) ≡ length ends
unfolding group_from
group-length start [] xs = refl
group-length start (end ∷ ends) xs = ap suc (group-length end ends xs)

-- items after the last place change no group
pub group-more : {A : Type 0} (start : ℕ) (ends : List ℕ) (xs more : List A) → Rising start ends (length xs) → group_from start ends (xs ++ more) ≡ group_from start ends xs
unfolding group_from Rising
group-more start [] xs more h = refl
group-more start (end ∷ ends) xs more h =
    let up = rising-first end ends (length xs) h.1 in
    let low = h.0 in
    let at : start ≤ length xs = omega arith in
    let size = length-drop start xs in
    let fits : end - start ≤ length (drop start xs) = omega arith in
    rw (drop-append-le start xs more at, take-append-le (end - start) (drop start xs) more fits, group-more end ends xs more h.1) refl

-- the size as one more place adds the items after the last place
pub group-end : {A : Type 0} (start : ℕ) (ends : List ℕ) (xs : List A) → Rising start ends (length xs)
    → group_from start (ends ++ (length xs ∷ [])) xs ≡ group_from start ends xs ++ (drop (last_end start ends) xs ∷ [])
unfolding group_from Rising last_end
group-end start [] xs h =
    let size = length-drop start xs in
    let all : length (drop start xs) ≤ length xs - start = omega arith in
    rw (take_all (length xs - start) (drop start xs) all) refl
group-end start (end ∷ ends) xs h = rw (group-end end ends xs h.1) refl

-- the size as one more place covers the list
pub covers-more : (ends : List ℕ) (old size : ℕ) → Covers ends old → old ≤ size → Covers (ends ++ (size ∷ [])) size
covers-more ends old size h le = (rising-end 0 ends size (rising-more 0 ends old size h.0 le), last-append 0 ends size)

drop-old : {A : Type 0} (xs more : List A) → drop (length xs) (xs ++ more) ≡ more
drop-old [] more = refl
drop-old (x ∷ xs) more = drop-old xs more

-- a covered list with more items, as one more group
pub group-push : {A : Type 0} (ends : List ℕ) (xs more : List A) → Covers ends (length xs)
    → group_from 0 (ends ++ (length (xs ++ more) ∷ [])) (xs ++ more) ≡ group_from 0 ends xs ++ (more ∷ [])
group-push ends xs more h =
    let grown = length-append xs more in
    let le : length xs ≤ length (xs ++ more) = omega arith in
    let up : Rising 0 ends (length (xs ++ more)) = rising-more 0 ends (length xs) (length (xs ++ more)) h.0 le in
    rw (group-end 0 ends (xs ++ more) up, group-more 0 ends xs more h.0, h.1, drop-old xs more) refl

-- the same for the bytes of a field
pub cut-push : (ends xs more : List ℕ) → Covers ends (length xs)
    → cut_from 0 (ends ++ (length (xs ++ more) ∷ [])) (xs ++ more) ≡ cut_from 0 ends xs ++ (more ∷ [])
cut-push ends xs more h =
    let grown = length-append xs more in
    let le : length xs ≤ length (xs ++ more) = omega arith in
    let up : Rising 0 ends (length (xs ++ more)) = rising-more 0 ends (length xs) (length (xs ++ more)) h.0 le in
    rw (cut-end 0 ends (xs ++ more) up, cut-more 0 ends xs more h.0, h.1, drop-old xs more) refl

-- no places cover nothing
pub covers-none : Covers [] 0
unfolding Rising last_end
covers-none = (omega arith, refl)

-- no places make no group
pub group-none : {A : Type 0} (start : ℕ) (ends : List ℕ) (xs : List A) → length ends ≡ 0 → group_from start ends xs ≡ []
unfolding group_from
group-none start [] xs h = refl
group-none start (e ∷ es) xs h = absurd (omega (arith, h))

-- the group at a place
pub group-get : {A : Type 0} (s : ℕ) (ends : List ℕ) (xs : List A) (i : ℕ) → i < length ends
    → get_or (group_from s ends xs) i [] ≡ take (get_or ends i 0 - prev s ends i) (drop (prev s ends i) xs)
unfolding group_from prev
group-get s [] xs i lt = absurd (omega arith)
group-get s (e ∷ es) xs zero lt = refl
group-get s (e ∷ es) xs (suc i) lt = group-get e es xs i (omega arith)

-- how many records a store has
pub stored-length : (bytes ends row_ends : List ℕ) → length (stored bytes ends row_ends) ≡ length row_ends
stored-length bytes ends row_ends = group-length 0 row_ends (cut_from 0 ends bytes)

pub apart-stored-length : (gap : ℕ) (bytes ends row_ends : List ℕ) → length (stored_apart gap bytes ends row_ends) ≡ length row_ends
apart-stored-length gap bytes ends row_ends = group-length 0 row_ends (cut_apart gap 0 ends bytes)

-- fields with no byte between them
pub stored-none : (bytes ends row_ends : List ℕ) → stored_apart 0 bytes ends row_ends ≡ stored bytes ends row_ends
stored-none bytes ends row_ends = ap (λ fields. group_from 0 row_ends fields) (apart-none 0 ends bytes)

-- where a record stands among the fields
pub record RecordAt (gap : ℕ) (bytes ends row_ends : List ℕ) (row : ℕ) : Type 0 where
  pub there : row < length row_ends
  pub up : prev 0 row_ends row ≤ get_or row_ends row 0
  pub within : get_or row_ends row 0 ≤ length ends
  pub width : length (record_at (stored_apart gap bytes ends row_ends) row) ≡ get_or row_ends row 0 - prev 0 row_ends row

pub record-there : (gap : ℕ) (bytes ends row_ends : List ℕ) (row : ℕ) → IsStore gap bytes ends row_ends → row < length (stored_apart gap bytes ends row_ends)
    → RecordAt gap bytes ends row_ends row
record-there gap bytes ends row_ends row is lt =
    let cut = cut_apart gap 0 ends bytes in
    let there : row < length row_ends = rw (apart-stored-length gap bytes ends row_ends) at lt in
    let b = field-bounds 0 row_ends (length ends) row is.rows there in
    let count = apart-length gap 0 ends bytes in
    let size = length-drop (prev 0 row_ends row) cut in
    let fits : get_or row_ends row 0 - prev 0 row_ends row ≤ length (drop (prev 0 row_ends row) cut) = omega (arith, b.0, b.1) in
    record {
      there = there;
      up = b.0;
      within = b.1;
      width = rw (group-get 0 row_ends cut row there) (length-take-le (get_or row_ends row 0 - prev 0 row_ends row) (drop (prev 0 row_ends row) cut) fits);
    }

-- where a field of a record stands among all fields and among the bytes
pub record FieldAt (gap : ℕ) (bytes ends row_ends : List ℕ) (row at place : ℕ) : Type 0 where
  pub there : place < length ends
  pub up : field_start gap 0 ends place ≤ get_or ends place 0
  pub within : get_or ends place 0 ≤ length bytes
  pub value : field_of (stored_apart gap bytes ends row_ends) row at ≡ take (get_or ends place 0 - field_start gap 0 ends place) (drop (field_start gap 0 ends place) bytes)

pub field-there : (gap : ℕ) (bytes ends row_ends : List ℕ) (row at : ℕ) → IsStore gap bytes ends row_ends → row < length (stored_apart gap bytes ends row_ends)
    → at < length (record_at (stored_apart gap bytes ends row_ends) row) → FieldAt gap bytes ends row_ends row at (prev 0 row_ends row + at)
field-there gap bytes ends row_ends row at is lt in-row =
    let cut = cut_apart gap 0 ends bytes in
    let r = record-there gap bytes ends row_ends row is lt in
    let short : at < get_or row_ends row 0 - prev 0 row_ends row = rw r.width at in-row in
    let there : prev 0 row_ends row + at < length ends = omega (arith, r.up, r.within, short) in
    let f = stands-apart gap 0 ends bytes (prev 0 row_ends row + at) is.fields there in
    record {
      there = there;
      up = f.up;
      within = f.within;
      value = rw (group-get 0 row_ends cut row r.there, get_or-take (get_or row_ends row 0 - prev 0 row_ends row) (drop (prev 0 row_ends row) cut) at [] short, get_or-drop (prev 0 row_ends row) cut at []) f.value;
    }
