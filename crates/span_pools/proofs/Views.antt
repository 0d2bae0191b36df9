-- What the state of a pool says of an object.
use Rattle.std.proofs.Common.{◌≡◌, ◌≢◌, ℕ, zero, suc, ◌+◌, ◌<◌, ◌≤◌, ⊎_elim, Bool, true, false, not, cond, List, ◌∷◌, length, Option, Some, None, is_some, IsSome, refl, sym, ap, ◌∙◌, arith, eq-eqb, ne_eqb}
use mathlib.Core.Logic.{dite}
use native.Mathlib.Decide.{ℕ_discrete}
use Rattle.std.proofs.lemmas.Bool.{cases_lt}
use Rattle.std.specs.List.{slice_get}
use Rattle.word_map.specs.WordMap.{WordMap}
use Rattle.span_pools.specs.declared.layout.Layout.{Layout}
use Rattle.span_pools.specs.Places.{place}
use Rattle.span_pools.specs.Shape.{IsShape}
use Rattle.span_pools.specs.Legal.{Span, object_at, object_in, AreApart}
use Rattle.span_pools.specs.View.{mark_of, owns, flags, live_of, spans_of, state_of}

flag_at : (live : ℕ → Bool) (a n i : ℕ) → i < n → slice_get (flags live a n) i ≡ Some (live (a + i))
flag_at live a zero i h = absurd (omega arith)
flag_at live a (suc n) zero h = ap (λ (z : ℕ). Some (live z)) (let e : a ≡ a + 0 = omega arith in e)
flag_at live a (suc n) (suc i) h = flag_at live (suc a) n i (omega arith) ∙ ap (λ (z : ℕ). Some (live z)) (let e : suc a + i ≡ a + suc i = omega arith in e)

flag_past : (live : ℕ → Bool) (a n i : ℕ) → n ≤ i → slice_get (flags live a n) i ≡ None
flag_past live a zero i h = refl
flag_past live a (suc n) zero h = absurd (omega arith)
flag_past live a (suc n) (suc i) h = flag_past live (suc a) n i (omega arith)

picked : (q p i : ℕ) (f : List Bool) (rest : List Span) → q ≡ p → object_at (record { page = q; live = f } ∷ rest) p i ≡ slice_get f i
picked q p i f rest e = ap (λ (b : Bool). cond b (slice_get f i) (object_at rest p i)) (eq-eqb q p e)

passed : (q p i : ℕ) (f : List Bool) (rest : List Span) → q ≢ p → object_at (record { page = q; live = f } ∷ rest) p i ≡ object_at rest p i
passed q p i f rest n = ap (λ (b : Bool). cond b (slice_get f i) (object_at rest p i)) (ne_eqb q p n)

span_there : (marked : ℕ → Bool) (live : ℕ → List Bool) (a n p i : ℕ) → a ≤ p → p < a + n → marked p ≡ true → object_at (spans_of marked live a n) p i ≡ slice_get (live p) i
span_there marked live a zero p i x y m = absurd (omega arith)
span_there marked live a (suc n) p i x y m = dite (ℕ_discrete a p)
    (λ (e : a ≡ p). ap (λ (b : Bool). object_at (cond b (record { page = a; live = live a } ∷ spans_of marked live (suc a) n) (spans_of marked live (suc a) n)) p i) (ap marked e ∙ m) ∙ picked a p i (live a) (spans_of marked live (suc a) n) e ∙ ap (λ (z : ℕ). slice_get (live z) i) e)
    (λ (k : a ≢ p). step (marked a) k (span_there marked live (suc a) n p i (omega arith) (omega arith) m))
  where
    step : (b : Bool) → a ≢ p → object_at (spans_of marked live (suc a) n) p i ≡ slice_get (live p) i
        → object_at (cond b (record { page = a; live = live a } ∷ spans_of marked live (suc a) n) (spans_of marked live (suc a) n)) p i ≡ slice_get (live p) i
    step true k e = passed a p i (live a) (spans_of marked live (suc a) n) k ∙ e
    step false k e = e

span_none : (marked : ℕ → Bool) (live : ℕ → List Bool) (a n p i : ℕ) → marked p ≡ false → object_at (spans_of marked live a n) p i ≡ None
span_none marked live a zero p i m = refl
span_none marked live a (suc n) p i m = step (marked a) refl (span_none marked live (suc a) n p i m)
  where
    step : (b : Bool) → marked a ≡ b → object_at (spans_of marked live (suc a) n) p i ≡ None
        → object_at (cond b (record { page = a; live = live a } ∷ spans_of marked live (suc a) n) (spans_of marked live (suc a) n)) p i ≡ None
    step true s e = passed a p i (live a) (spans_of marked live (suc a) n) (λ x. let z : true ≡ false = sym s ∙ (ap marked x ∙ m) in let y : ⊥ = cc in y) ∙ e
    step false s e = e

-- an object of a superblock is live where its words are out
pub seen_there : (l : Layout) (active : Option ℕ) (marks words : WordMap) (p i : ℕ) → mark_of l marks p ≡ true → p + 16 ≤ l.pages → i < l.objects → object_in (state_of l active marks words) p i ≡ Some (not (owns words (place l p i)))
seen_there l active marks words p i m inside low =
    span_there (mark_of l marks) (live_of l words) 0 l.pages p i (omega arith) (omega arith) m ∙ flag_at (λ j. not (owns words (place l p j))) 0 l.objects i low
    ∙ ap (λ (z : ℕ). Some (not (owns words (place l p z)))) (let e : 0 + i ≡ i = omega arith in e)

pub seen_past : (l : Layout) (active : Option ℕ) (marks words : WordMap) (p i : ℕ) → mark_of l marks p ≡ true → p + 16 ≤ l.pages → l.objects ≤ i → object_in (state_of l active marks words) p i ≡ None
seen_past l active marks words p i m inside many =
    span_there (mark_of l marks) (live_of l words) 0 l.pages p i (omega arith) (omega arith) m ∙ flag_past (λ j. not (owns words (place l p j))) 0 l.objects i many

pub seen_none : (l : Layout) (active : Option ℕ) (marks words : WordMap) (p i : ℕ) → mark_of l marks p ≡ false → object_in (state_of l active marks words) p i ≡ None
seen_none l active marks words p i m = span_none (mark_of l marks) (live_of l words) 0 l.pages p i m

-- where an object is seen, there are its superblock and it
pub of_seen : (l : Layout) (active : Option ℕ) (marks words : WordMap) (p i : ℕ) → IsShape l (mark_of l marks) (owns words) → IsSome (object_in (state_of l active marks words) p i) → (mark_of l marks p ≡ true) × (i < l.objects)
of_seen l active marks words p i s h = go (mark_of l marks p) refl
  where
    nothing : (o : Option Bool) → o ≡ None → is_some o ≡ true → ⊥
    nothing o e x = let z : is_some o ≡ false = ap is_some e in let y : true ≡ false = sym x ∙ z in let q : ⊥ = cc in q

    go : (b : Bool) → mark_of l marks p ≡ b → (mark_of l marks p ≡ true) × (i < l.objects)
    go true e = (e, ⊎_elim (λ (x : i < l.objects). x) (λ (x : l.objects ≤ i). absurd (nothing (object_in (state_of l active marks words) p i) (seen_past l active marks words p i e (s.inside p e) x) h)) (cases_lt i l.objects))
    go false e = absurd (nothing (object_in (state_of l active marks words) p i) (seen_none l active marks words p i e) h)

pub flags_length : (live : ℕ → Bool) (a n : ℕ) → length (flags live a n) ≡ n
flags_length live a zero = refl
flags_length live a (suc n) = ap suc (flags_length live (suc a) n)

-- superblocks whose pages do not overlap are listed in the order of their pages
pub spans_apart : (l : Layout) (marked : ℕ → Bool) (live : ℕ → List Bool) → ((p : ℕ) → marked p ≡ true → p + 16 ≤ l.pages) → ((p q : ℕ) → marked p ≡ true → marked q ≡ true → p < q → p + 16 ≤ q)
    → ((p : ℕ) → length (live p) ≡ l.objects) → (a n low : ℕ) → ((q : ℕ) → a ≤ q → marked q ≡ true → low ≤ q) → AreApart l low (spans_of marked live a n)
spans_apart l marked live inside apart all a zero low from = tt
spans_apart l marked live inside apart all a (suc n) low from = go (marked a) refl (λ x h. spans_apart l marked live inside apart all (suc a) n x h)
  where
    go : (b : Bool) → marked a ≡ b → ((x : ℕ) → ((q : ℕ) → suc a ≤ q → marked q ≡ true → x ≤ q) → AreApart l x (spans_of marked live (suc a) n))
        → AreApart l low (cond b (record { page = a; live = live a } ∷ spans_of marked live (suc a) n) (spans_of marked live (suc a) n))
    go true e rest = (from a (omega arith) e, inside a e, all a, rest (a + 16) (λ q h m. apart a q e m (omega arith)))
    go false e rest = rest low (λ q h m. from q (omega arith) m)
