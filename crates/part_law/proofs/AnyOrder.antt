-- Maps of shares stay such in any order: each exchange of two maps exchanges their shares.
use Rattle.std.proofs.Common.{◌≡◌, ◌<◌, ◌++◌, ◌∙◌, ℕ, zero, suc, List, [], ◌∷◌, length, refl, ap, sym, subst, arith, append_assoc}
use Rattle.std.specs.Prelude.{slice_index_or}
use Rattle.std.specs.List.{AllZip, slice_set, swap}
use Rattle.std.specs.List.Sorted.{IsPermutation, SwapsInRange, apply_swaps}
use Rattle.std.proofs.lemmas.List.Sorted.{IsPermutation-append_comm, IsPermutation-append_left, IsPermutation-append_right, IsPermutation-refl, IsPermutation-trans}
use Rattle.par_model.specs.Plan.{Plan}
use Rattle.partial_agg.specs.Groups.{AreGroups, GroupsByKey}
use Rattle.row_blocks.specs.Blocks.{Table}
use Rattle.gather_law.specs.Shares.{AreShared, together}
use Rattle.part_law.specs.Law.{OrderKeeps}

-- the elements at i and j in each other's place; d is read only beyond the end
abbrev exchanged : {X : Type 0} → X → List X → ℕ → ℕ → List X
exchanged d xs i j = slice_set (slice_set xs i (slice_index_or xs j d)) j (slice_index_or xs i d)

module _ (A B : Type 0) (R : A → B → Type 0) where
  zip_at : (xs : List A) (ys : List B) (k : ℕ) (d : A) (e : B) → AllZip R xs ys → k < length ys → R (slice_index_or xs k d) (slice_index_or ys k e)
  zip_at [] [] k d e z lt = absurd (omega (arith, lt))
  zip_at [] (y ∷ ys) k d e z lt = absurd z
  zip_at (x ∷ xs) [] k d e z lt = absurd z
  zip_at (x ∷ xs) (y ∷ ys) zero d e z lt = z.0
  zip_at (x ∷ xs) (y ∷ ys) (suc k) d e z lt = zip_at xs ys k d e z.1 (omega (arith, lt))

  zip_set : (xs : List A) (ys : List B) (k : ℕ) (a : A) (b : B) → AllZip R xs ys → R a b → AllZip R (slice_set xs k a) (slice_set ys k b)
  zip_set [] [] k a b z r = tt
  zip_set [] (y ∷ ys) k a b z r = absurd z
  zip_set (x ∷ xs) [] k a b z r = absurd z
  zip_set (x ∷ xs) (y ∷ ys) zero a b z r = (r, z.1)
  zip_set (x ∷ xs) (y ∷ ys) (suc k) a b z r = (z.0, zip_set xs ys k a b z.1 r)

  zip_exchanged : (xs : List A) (ys : List B) (i j : ℕ) (d : A) (e : B) → AllZip R xs ys → i < length ys → j < length ys → AllZip R (exchanged d xs i j) (exchanged e ys i j)
  zip_exchanged xs ys i j d e z p q =
      zip_set (slice_set xs i (slice_index_or xs j d)) (slice_set ys i (slice_index_or ys j e)) j (slice_index_or xs i d) (slice_index_or ys i e)
      (zip_set xs ys i (slice_index_or xs j d) (slice_index_or ys j e) z (zip_at xs ys j d e z q)) (zip_at xs ys i d e z p)

  zip_length : (xs : List A) (ys : List B) → AllZip R xs ys → length xs ≡ length ys
  zip_length [] [] z = refl
  zip_length [] (y ∷ ys) z = absurd z
  zip_length (x ∷ xs) [] z = absurd z
  zip_length (x ∷ xs) (y ∷ ys) z = ap suc (zip_length xs ys z.1)

-- the first two of three lists change places
turned : (a b c : Table) → IsPermutation (a ++ (b ++ c)) (b ++ (a ++ c))
turned a b c =
    let front : IsPermutation ((a ++ b) ++ c) ((b ++ a) ++ c) = IsPermutation-append_left c (a ++ b) (b ++ a) (IsPermutation-append_comm a b) in
    subst (λ (l : Table). IsPermutation (a ++ (b ++ c)) l) (append_assoc b a c) (subst (λ (l : Table). IsPermutation l ((b ++ a) ++ c)) (append_assoc a b c) front)

-- a share in the place of another one, which comes in front of all
set_together : (shares : List Table) (k : ℕ) (x d : Table) → k < length shares → IsPermutation (slice_index_or shares k d ++ together (slice_set shares k x)) (x ++ together shares)
set_together [] k x d lt = absurd (omega (arith, lt))
set_together (s ∷ shares) zero x d lt = turned s x (together shares)
set_together (s ∷ shares) (suc k) x d lt =
    let y = slice_index_or shares k d in
    let rest = together (slice_set shares k x) in
    IsPermutation-trans (y ++ (s ++ rest)) (s ++ (y ++ rest)) (x ++ (s ++ together shares)) (turned y s rest)
    (IsPermutation-trans (s ++ (y ++ rest)) (s ++ (x ++ together shares)) (x ++ (s ++ together shares))
    (IsPermutation-append_right s (y ++ rest) (x ++ together shares) (set_together shares k x d (omega (arith, lt))))
    (turned s x (together shares)))

-- two shares that change places have the same rows together
exchanged_together : (shares : List Table) (i j : ℕ) (d : Table) → i < length shares → j < length shares → IsPermutation (together (exchanged d shares i j)) (together shares)
exchanged_together [] i j d p q = absurd (omega (arith, p))
exchanged_together (s ∷ shares) zero zero d p q = IsPermutation-refl (s ++ together shares)
exchanged_together (s ∷ shares) zero (suc j) d p q = set_together shares j s d (omega (arith, q))
exchanged_together (s ∷ shares) (suc i) zero d p q = set_together shares i s d (omega (arith, p))
exchanged_together (s ∷ shares) (suc i) (suc j) d p q =
    IsPermutation-append_right s (together (exchanged d shares i j)) (together shares) (exchanged_together shares i j d (omega (arith, p)) (omega (arith, q)))

set_length : (ys : List GroupsByKey) (k : ℕ) (y : GroupsByKey) → length (slice_set ys k y) ≡ length ys
set_length [] k y = refl
set_length (x ∷ ys) zero y = refl
set_length (x ∷ ys) (suc k) y = ap suc (set_length ys k y)

module _ (plan : Plan) (width : ℕ) (rows : Table) where
  -- shares of the rows for these maps
  abbrev Shared : List GroupsByKey → Type 0
  Shared maps = (shares : List Table) × AllZip (AreGroups plan) shares maps × IsPermutation (together shares) rows

  swapped : (maps : List GroupsByKey) (i j : ℕ) → i < length maps → j < length maps → Shared maps → Shared (swap maps i j) × (length (swap maps i j) ≡ length maps)
  swapped [] i j p q h = absurd (omega (arith, p))
  swapped (m ∷ maps) i j p q h =
      let all = m ∷ maps in
      let same = zip_length Table GroupsByKey (AreGroups plan) h.0 all h.1 in (
        (
          exchanged [] h.0 i j,
          zip_exchanged Table GroupsByKey (AreGroups plan) h.0 all i j [] m h.1 p q,
          IsPermutation-trans (together (exchanged [] h.0 i j)) (together h.0) rows (exchanged_together h.0 i j [] (omega (arith, same, p)) (omega (arith, same, q))) h.2,
        ),
        set_length (slice_set all i (slice_index_or all j m)) j (slice_index_or all i m) ∙ set_length all i (slice_index_or all j m),
      )

  moved : (maps : List GroupsByKey) (moves : List (ℕ × ℕ)) → SwapsInRange (length maps) moves → Shared maps → Shared (apply_swaps maps moves) × (length (apply_swaps maps moves) ≡ length maps)
  moved maps [] below h = (h, refl)
  moved maps (p ∷ ps) below h =
      let more = moved maps ps below.2 h in
      let last = swapped (apply_swaps maps ps) p.0 p.1 (omega (arith, below.0, more.1)) (omega (arith, below.1, more.1)) more.0 in
      (last.0, last.1 ∙ more.1)

pub order_keeps : OrderKeeps
order_keeps plan width rows maps others same h =
    let all = moved plan width rows maps same.moves same.below (h.shares, h.each, h.same) in
    subst (λ (l : List GroupsByKey). AreShared plan width rows l) (sym same.is) (record { shares = all.0.0; each = all.0.1; accepted = h.accepted; same = all.0.2 })
