-- Calls of many objects, as calls of one after the other.
use Rattle.std.proofs.Common.{◌≡◌, ℕ, ◌*◌, List, [], ◌∷◌, ◌++◌, drop, length, refl, sym, ap, subst, ◌∙◌}
use Rattle.std.proofs.lemmas.List.{append_assoc}
use Rattle.atomic_table.specs.Seated.{TableId}
use Rattle.region_words.specs.declared.chunk.Chunk.{Chunk}
use Rattle.span_pools.specs.declared.layout.Layout.{Layout}
use Rattle.span_pools.specs.Legal.{PoolState, IsAlloc, AreAllocs}
use Rattle.span_pools.specs.Batch.{AreChunks, gone, places}

-- one more object became live
pub allocs_next : (l : Layout) (s t u : PoolState) (ats : List ℕ) (at : ℕ) → AreAllocs l s ats t → IsAlloc l t at u → AreAllocs l s (ats ++ at ∷ []) u
allocs_next l s t u [] at e x = (u, subst (λ (z : PoolState). IsAlloc l z at u) e x, refl)
allocs_next l s t u (b ∷ ats) at h x = (h.0, h.1, allocs_next l h.0 t u ats at h.2 x)

pub places_next : (cs : List Chunk) (c : Chunk) → places (cs ++ c ∷ []) ≡ places cs ++ c.at ∷ []
places_next [] c = refl
places_next (x ∷ cs) c = ap (λ (z : List ℕ). x.at ∷ z) (places_next cs c)

pub chunks_next : (region : TableId) (bytes : ℕ) (cs : List Chunk) (c : Chunk) → AreChunks region bytes cs → (c.bytes ≡ bytes) × (c.part.region ≡ region) → AreChunks region bytes (cs ++ c ∷ [])
chunks_next region bytes [] c h x = (x.0, x.1, tt)
chunks_next region bytes (d ∷ cs) c h x = (h.0, h.1, chunks_next region bytes cs c h.2 x)

-- those before the last, and the last
pub chunks_last : (region : TableId) (bytes : ℕ) (cs : List Chunk) (c : Chunk) → AreChunks region bytes (cs ++ c ∷ []) → AreChunks region bytes cs × ((c.bytes ≡ bytes) × (c.part.region ≡ region))
chunks_last region bytes [] c h = (tt, (h.0, h.1))
chunks_last region bytes (d ∷ cs) c h = let r = chunks_last region bytes cs c h.2 in ((h.0, h.1, r.0), r.1)

-- what went off the end of a list is what stood behind its rest
pub gone_is : (before after out : List Chunk) → before ≡ after ++ out → gone before after ≡ out
gone_is before after out e = ap (λ (z : List Chunk). gone z after) e ∙ dropped after
  where
    dropped : (cs : List Chunk) → drop (length cs) (cs ++ out) ≡ out
    dropped [] = refl
    dropped (c ∷ cs) = dropped cs

-- the last of a list went off too
pub gone_more : (before now after : List Chunk) (x : Chunk) → before ≡ now ++ gone before now → now ≡ after ++ x ∷ [] → (gone before after ≡ x ∷ gone before now) × (before ≡ after ++ gone before after)
gone_more before now after x e p =
    let all : before ≡ after ++ x ∷ gone before now = e ∙ (ap (λ (z : List Chunk). z ++ gone before now) p ∙ append_assoc after (x ∷ []) (gone before now)) in
    let is = gone_is before after (x ∷ gone before now) all in
    (is, all ∙ ap (λ (z : List Chunk). after ++ z) (sym is))

-- what is said of a layout and of the bytes of its objects
pub said_of : (P : Layout → ℕ → Type 0) (l k : Layout) (bytes : ℕ) → k ≡ l → bytes ≡ 8 * l.size → P k bytes → P l (8 * l.size)
said_of P l k bytes e b x = subst (λ (z : Layout). P z (8 * l.size)) e (subst (P k) b x)
