-- How a table is made, as facts about lists: requests one after another, slices that are left, and partitions in order.
use Rattle.std.proofs.Common.{◌≡◌, ℕ, zero, suc, ◌+◌, ◌<◌, ◌≤◌, true, List, [], ◌∷◌, ◌++◌, length, replicate, refl, sym, ap, subst, ◌∙◌, arith}
use mathlib.Core.Option.{some}
use lib.ListN.{get_elem?}
use Rattle.atomic_table.specs.Seated.{TableId}
use Rattle.region_words.specs.declared.chunk.Chunk.{Chunk}
use Rattle.dsa_area.specs.Sizes.{chunk_size}
use Rattle.dsa_area.specs.declared.area.Area.{Area}
use Rattle.dsa_area.specs.declared.area.AreaPass.{AreaPass}
use Rattle.dshash_parts.specs.declared.histories.PartitionName.{PartitionName}
use Rattle.dshash_parts.specs.States.{PartitionState, fresh}
use Rattle.dshash_parts.specs.Traces.{Request, Got, Missed, Requested}
use Rattle.dshash_parts.specs.Sweeps.{GaveBack}
use Rattle.dshash_parts.specs.Opening.{Asks, AreSlices, GaveSlices, HaveWords, IsNoTable, gave_slices, opens_from}
use Rattle.dshash_parts.specs.declared.open.DsNew.TheVariants.{NoSpace}

pub asks_append : (a : Area) (p q u : AreaPass) (rs ss : List Request) → Asks a p q rs → Asks a q u ss → Asks a p u (rs ++ ss)
asks_append a p q u [] ss x y = subst (λ (z : AreaPass). Asks a z u ss) x y
asks_append a p q u (r ∷ rs) ss x y = (x.0, x.1, asks_append a x.0 q u rs ss x.2 y)

-- one more of the same at the end
replicate_snoc : {A : Type 0} (n : ℕ) (x : A) → replicate n x ++ x ∷ [] ≡ replicate (suc n) x
replicate_snoc zero x = refl
replicate_snoc (suc n) x = ap (λ z. x ∷ z) (replicate_snoc n x)

-- this many requests of one kind, and one more
pub asks_next : (a : Area) (p q u : AreaPass) (n m : ℕ) (r : Request) → m ≡ n + 1 → Asks a p q (replicate n r) → Requested a q u r → Asks a p u (replicate m r)
asks_next a p q u n m r e x y =
    let more : suc n ≡ m = omega arith in
    subst (λ (z : ℕ). Asks a p u (replicate z r)) more (subst (λ (z : List Request). Asks a p u z) (replicate_snoc n r) (asks_append a p q u (replicate n r) (r ∷ []) x (u, y, refl)))

-- one slice went back, and then this many
pub gave_first : (a : Area) (p q u : AreaPass) (n m : ℕ) → m ≡ n + 1 → GaveBack a p q (chunk_size 8) true → GaveSlices a q u n → GaveSlices a p u m
gave_first a p q u n m e y x =
    let few : length x.0 ≡ n = x.1 in
    let more : length (y.0 ∷ x.0) ≡ m = omega arith in (y.0 ∷ x.0, more, (q, y.1, x.2))

-- none went back
pub gave_none : (a : Area) (p : AreaPass) → GaveSlices a p p 0
gave_none a p = ([], refl, refl)

-- this many slices were granted, one was refused, and they went back
pub asks_refused : (a : Area) (p q u w : AreaPass) (n m pages largest : ℕ) → m ≡ n → n < 128 → Asks a p q (replicate n (Got 8)) → Requested a q u (Missed 8 pages largest) → GaveSlices a u w m → IsNoTable a p w (NoSpace pages largest)
asks_refused a p q u w n m pages largest e low x y z =
    let count : length z.0 ≡ n = z.1 ∙ e in
    let few : length z.0 < 128 = omega arith in (
      z.0,
      few,
      asks_append a p q w (replicate (length z.0) (Got 8)) (Missed 8 pages largest ∷ gave_slices z.0) (subst (λ (k : ℕ). Asks a p q (replicate k (Got 8))) (sym count) x) (u, y, z.2),
    )

-- the last slice, and those before it
pub slices_last : (region : TableId) (all xs : List Chunk) (c : Chunk) → all ≡ xs ++ c ∷ [] → AreSlices region all → AreSlices region xs × (c.part.region ≡ region) × (c.bytes ≡ chunk_size 8)
slices_last region all xs c e h = back xs (subst (λ (z : List Chunk). AreSlices region z) e h)
  where
    back : (ys : List Chunk) → AreSlices region (ys ++ c ∷ []) → AreSlices region ys × (c.part.region ≡ region) × (c.bytes ≡ chunk_size 8)
    back [] x = (tt, x.0, x.2)
    back (y ∷ ys) x = let r = back ys x.3 in ((x.0, x.1, x.2, r.0), r.1, r.2)

-- one more slice at the end
pub slices_next : (region : TableId) (all xs : List Chunk) (c : Chunk) → all ≡ xs ++ c ∷ [] → AreSlices region xs → c.part.region ≡ region → 8 ≤ c.bytes → c.bytes ≡ chunk_size 8 → AreSlices region all
slices_next region all xs c e h here room size = subst (λ (z : List Chunk). AreSlices region z) (sym e) (front xs h)
  where
    front : (ys : List Chunk) → AreSlices region ys → AreSlices region (ys ++ c ∷ [])
    front [] x = (here, room, size, tt)
    front (y ∷ ys) x = (x.0, x.1, x.2, front ys x.3)

-- slices have a word each
pub have_words : (region : TableId) (xs : List Chunk) → AreSlices region xs → HaveWords region xs
have_words region [] h = tt
have_words region (x ∷ xs) h = (h.0, h.1, have_words region xs h.3)

module _ {S : Type 0} (region : TableId) (seed key_words item_bytes : ℕ) where
  -- what a partition of this number opens with
  abbrev pub opened : ℕ → PartitionName × PartitionState S
  opened number = (record { region = region; number = number; seed = seed; key_words = key_words; item_bytes = item_bytes }, fresh)

  -- the partition of one place among those from a number on
  pub opens_at : (number n i : ℕ) → i < n → get_elem? (opens_from {S = S} region seed key_words item_bytes number n) i ≡ some (opened (number + i))
  opens_at number zero i low = absurd (omega arith)
  opens_at number (suc n) zero low = let e : number ≡ number + 0 = omega arith in ap (λ (z : ℕ). some (opened z)) e
  opens_at number (suc n) (suc i) low = let e : (number + 1) + i ≡ number + suc i = omega arith in opens_at (number + 1) n i (omega arith) ∙ ap (λ (z : ℕ). some (opened z)) e

-- as many partitions as were asked for
pub length-opens : (S : Type 0) (region : TableId) (seed key_words item_bytes number n : ℕ) → length (opens_from {S = S} region seed key_words item_bytes number n) ≡ n
length-opens S region seed key_words item_bytes number zero = refl
length-opens S region seed key_words item_bytes number (suc n) = let r = length-opens S region seed key_words item_bytes (number + 1) n in omega arith

-- 128 partitions that opened in order, from 0 on
pub opened_in : {S : Type 0} (region : TableId) (seed key_words item_bytes item n : ℕ) (opens : List (PartitionName × PartitionState S)) → opens ≡ opens_from region seed key_words item_bytes 0 n → n ≡ 128 → item_bytes ≡ item
    → (i : ℕ) → i < 128 → get_elem? opens i ≡ some (opened {S = S} region seed key_words item i)
opened_in {S} region seed key_words item_bytes item n opens e count same i low =
    let few : i < n = omega arith in
    let from_zero : 0 + i ≡ i = omega arith in
    ap (λ (l : List (PartitionName × PartitionState S)). get_elem? l i) e
    ∙ (opens_at {S = S} region seed key_words item_bytes 0 n i few
    ∙ (ap (λ (z : ℕ). some (opened {S = S} region seed key_words item_bytes z)) from_zero ∙ ap (λ (z : ℕ). some (opened {S = S} region seed key_words z i)) same))
