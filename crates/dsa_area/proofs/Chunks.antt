-- The sizes of chunks, by the classes.
use Rattle.std.proofs.Common.{◌≡◌, ◌≢◌, ℕ, zero, suc, ◌+◌, ◌-◌, ◌*◌, ◌<◌, ◌≤◌, Bool, cond, List, [], ◌∷◌, length, get_or, refl, sym, ap, subst, ◌∙◌, arith, ◌⊎◌, inl, inr, ⊎_elim, Result, Ok, Err, IfOk}
use Rattle.std.proofs.lemmas.Bool.{cases_lt, le-leb, lt-leb}
use Rattle.region_words.specs.declared.chunk.Chunk.{Chunk}
use Rattle.size_classes.specs.Classes.{sizes, first_size, IsClass, IsLeast, class_size, largest_size}
use Rattle.size_classes.proofs.Sizes as classes
use Rattle.size_classes.proofs.Sizes.{grows, size_at, size_above, class_range}
use Rattle.dsa_area.specs.Sizes.{page_bytes, pages_for, chunk_size}

-- an object of the least class has the bytes of the chunk
pub size_least : (bytes class : ℕ) → IsLeast bytes class → class_size class ≡ chunk_size bytes
unfolding chunk_size
size_least bytes class k = sym (classes.size_least bytes class (page_bytes * pages_for bytes) k)

-- and whole pages have them above the largest size
pub size_pages : (bytes : ℕ) → largest_size < bytes → page_bytes * pages_for bytes ≡ chunk_size bytes
unfolding chunk_size
size_pages bytes h = sym (size_above bytes (page_bytes * pages_for bytes) h)

first_holds : (ss : List ℕ) (other bytes : ℕ) → bytes ≤ other → bytes ≤ first_size ss other bytes
unfolding first_size
first_holds [] other bytes h = h
first_holds (s ∷ ss) other bytes h = ⊎_elim
    (λ (l : s < bytes). subst (λ (b : Bool). bytes ≤ cond b s (first_size ss other bytes)) (sym (lt-leb bytes s l)) (first_holds ss other bytes h))
    (λ (l : bytes ≤ s). subst (λ (b : Bool). bytes ≤ cond b s (first_size ss other bytes)) (sym (le-leb bytes s l)) l)
    (cases_lt s bytes)

-- a chunk holds the bytes that were asked for
pub chunk_holds : (bytes : ℕ) → bytes ≤ chunk_size bytes
unfolding chunk_size
chunk_holds bytes = first_holds sizes (page_bytes * pages_for bytes) bytes (omega arith)

-- the first size that holds the bytes stands at a place, or all sizes have fewer
first_found : (ss : List ℕ) (other bytes : ℕ) → ((i : ℕ) × (i < length ss) × (first_size ss other bytes ≡ get_or ss i 0)) ⊎ ((j : ℕ) → j < length ss → get_or ss j 0 < bytes)
unfolding first_size
first_found [] other bytes = inr (λ j l. absurd (omega arith))
first_found (s ∷ ss) other bytes = ⊎_elim
    (λ (l : s < bytes). ⊎_elim
    (λ (f : (i : ℕ) × (i < length ss) × (first_size ss other bytes ≡ get_or ss i 0)). inl (suc f.0, (let h = f.1 in omega arith), ap (λ (b : Bool). cond b s (first_size ss other bytes)) (lt-leb bytes s l) ∙ f.2))
    (λ (n : (j : ℕ) → j < length ss → get_or ss j 0 < bytes). inr (all_less s ss bytes l n))
    (first_found ss other bytes))
    (λ (l : bytes ≤ s). inl (0, omega arith, ap (λ (b : Bool). cond b s (first_size ss other bytes)) (le-leb bytes s l)))
    (cases_lt s bytes)
  where
    all_less : (s : ℕ) (ss : List ℕ) (bytes : ℕ) → s < bytes → ((j : ℕ) → j < length ss → get_or ss j 0 < bytes) → (j : ℕ) → j < length (s ∷ ss) → get_or (s ∷ ss) j 0 < bytes
    all_less s ss bytes l n zero h = l
    all_less s ss bytes l n (suc j) h = n j (omega arith)

-- each size is the first that holds it
own_size : (other i : ℕ) → i < length sizes → first_size sizes other (get_or sizes i 0) ≡ get_or sizes i 0
own_size other i low = classes.size_least (get_or sizes i 0) (i + 2) other (record {
  is_class = record { low = omega arith; high = omega arith };
  holds = let e : i ≡ i + 2 - 2 = omega arith in subst (λ (z : ℕ). get_or sizes i 0 ≤ get_or sizes z 0) e (omega arith);
  least = λ class k h. ⊎_elim
      (λ (l : class < i + 2). absurd (let g = grows i (class - 2) (omega (arith, k.low)) (omega arith) in let s = (size_at i low).above in omega arith))
      (λ (l : i + 2 ≤ class). l)
      (cases_lt class (i + 2));
}) ∙ ap (λ (z : ℕ). get_or sizes z 0) (let e : i + 2 - 2 ≡ i = omega arith in e)

-- a request for all bytes of a chunk gets as many
pub chunk_size_again : (bytes : ℕ) → chunk_size (chunk_size bytes) ≡ chunk_size bytes
unfolding chunk_size
chunk_size_again bytes = ⊎_elim
    (λ (f : (i : ℕ) × (i < length sizes) × (first_size sizes (page_bytes * pages_for bytes) bytes ≡ get_or sizes i 0)).
    let all = first_size sizes (page_bytes * pages_for bytes) bytes in
    ap (λ (z : ℕ). first_size sizes (page_bytes * pages_for z) z) f.2 ∙ (own_size (page_bytes * pages_for (get_or sizes f.0 0)) f.0 f.1 ∙ sym f.2))
    (λ (n : (j : ℕ) → j < length sizes → get_or sizes j 0 < bytes).
    let large : largest_size < bytes = n 35 (omega arith) in
    let whole : first_size sizes (page_bytes * pages_for bytes) bytes ≡ page_bytes * pages_for bytes = size_above bytes (page_bytes * pages_for bytes) large in
    let more : largest_size < page_bytes * pages_for bytes = omega arith in
    let same : page_bytes * pages_for (page_bytes * pages_for bytes) ≡ page_bytes * pages_for bytes = omega arith in
    ap (λ (z : ℕ). first_size sizes (page_bytes * pages_for z) z) whole ∙ (size_above (page_bytes * pages_for bytes) (page_bytes * pages_for (page_bytes * pages_for bytes)) more ∙ (same ∙ sym whole)))
    (first_found sizes (page_bytes * pages_for bytes) bytes)

-- so one of that size does
pub size_holds : {E : Type 0} (r : Result Chunk E) (bytes : ℕ) → IfOk r (λ (c : Chunk). c.bytes ≡ chunk_size bytes) → IfOk r (λ (c : Chunk). bytes ≤ c.bytes)
size_holds (Ok c) bytes e = subst (λ (z : ℕ). bytes ≤ z) (sym e) (chunk_holds bytes)
size_holds (Err x) bytes e = tt

-- no class's object has more bytes than the largest
pub no_large : (bytes : ℕ) → largest_size < bytes → (class : ℕ) → IsClass class → class_size class ≢ bytes
no_large bytes h class is e = let r = (class_range class is).1 in omega arith

-- 24 bytes are those of a class
pub size_24 : chunk_size 24 ≡ 24
unfolding chunk_size first_size
size_24 = refl
