-- How often bytes are had by stretches one after another.
use Rattle.std.proofs.Common.{◌≡◌, ◌==◌, ◌&&◌, ◌<◌, ◌≤◌, ◌+◌, ◌++◌, ◌⊎◌, inl, inr, ℕ, zero, suc, Bool, false, true, List, [], ◌∷◌, Option, Some, ap, arith, cond, nat_le, nat_lt, refl}
use Rattle.std.proofs.lemmas.Bool.Decides.{nat_tests}
use Rattle.std.proofs.lemmas.List.Sums.{sum_by-append, sum_by-cons, sum_by_push}
use Rattle.state_cover.specs.Bytes.{had, has_byte}
use Rattle.state_cover.specs.Joined.{Touches, joined}
use Rattle.state_head.specs.Cover.{AreStretches, IsAfter}
use Rattle.state_head.specs.declared.cover.Place.{Place}
use Rattle.state_head.specs.declared.cover.Stretch.{Stretch}

-- how often one stretch has a byte
abbrev pub one : ℕ → ℕ → Stretch → ℕ
one source at s = cond (has_byte source at s) 1 0

pub had-cons : (source at : ℕ) (s : Stretch) (more : List Stretch) → had source at (s ∷ more) ≡ one source at s + had source at more
had-cons source at s more = sum_by-cons (λ (x : Stretch). one source at x) s more

pub had-append : (source at : ℕ) (a b : List Stretch) → had source at (a ++ b) ≡ had source at a + had source at b
had-append source at a b = sum_by-append (λ (x : Stretch). one source at x) a b

pub had-push : (source at : ℕ) (a : List Stretch) (s : Stretch) → had source at (a ++ s ∷ []) ≡ had source at a + one source at s
had-push source at a s = sum_by_push (λ (x : Stretch). one source at x) a s

-- a stretch has a byte
pub record HasIt (source at : ℕ) (s : Stretch) : Type 0 where
  pub source_is : s.place.source ≡ source
  pub from : s.place.from ≤ at
  pub to : at < s.place.to

test_has : (a b c d e f : ℕ) → ((a == b) && nat_le c d && nat_lt e f) ≡ true → (a ≡ b) × (c ≤ d) × (e < f)
test_has a b c d e f h = (grind (arith, nat_tests), grind (arith, nat_tests), grind (arith, nat_tests))

has_test : (a b c d e f : ℕ) → a ≡ b → c ≤ d → e < f → ((a == b) && nat_le c d && nat_lt e f) ≡ true
has_test a b c d e f h i j = grind (arith, nat_tests)

pub it_has : (source at : ℕ) (s : Stretch) → has_byte source at s ≡ true → HasIt source at s
it_has source at s h =
    let p = test_has s.place.source source s.place.from at at s.place.to h in
    record { source_is = p.0; from = p.1; to = p.2 }

pub has_it : (source at : ℕ) (s : Stretch) → HasIt source at s → has_byte source at s ≡ true
has_it source at s is = has_test s.place.source source s.place.from at at s.place.to is.source_is is.from is.to

either : (b : Bool) → (b ≡ true) ⊎ (b ≡ false)
either true = inl refl
either false = inr refl

one_yes : (source at : ℕ) (s : Stretch) → has_byte source at s ≡ true → one source at s ≡ 1
one_yes source at s h = ap (λ (b : Bool). cond b 1 0) h

one_no : (source at : ℕ) (s : Stretch) → has_byte source at s ≡ false → one source at s ≡ 0
one_no source at s h = ap (λ (b : Bool). cond b 1 0) h

-- a stretch has a byte, or it has not
pub which : (source at : ℕ) (s : Stretch) → (HasIt source at s × (one source at s ≡ 1)) ⊎ (one source at s ≡ 0)
which source at s = go (either (has_byte source at s))
  where
    go : (has_byte source at s ≡ true) ⊎ (has_byte source at s ≡ false) → (HasIt source at s × (one source at s ≡ 1)) ⊎ (one source at s ≡ 0)
    go (inl h) = inl (it_has source at s h, one_yes source at s h)
    go (inr h) = inr (one_no source at s h)

pub one_of : (source at : ℕ) (s : Stretch) → HasIt source at s → one source at s ≡ 1
one_of source at s is = one_yes source at s (has_it source at s is)

-- two that touch have what both have
touching : (s f t g u at r q : ℕ) → r ≡ q → t ≡ g → f ≤ t → g ≤ u
    → cond ((r == s) && nat_le f at && nat_lt at u) 1 0 ≡ cond ((r == s) && nat_le f at && nat_lt at t) 1 0 + cond ((q == s) && nat_le g at && nat_lt at u) 1 0
touching s f t g u at r q e h i j = grind (arith, nat_tests)

pub joined_has : (source at : ℕ) (a b : Stretch) → Touches a.place b.place → a.place.from ≤ a.place.to → b.place.from ≤ b.place.to → one source at (joined a b) ≡ one source at a + one source at b
joined_has source at a b touch first second =
    touching source a.place.from a.place.to b.place.from b.place.to at a.place.source b.place.source touch.source touch.at first second

-- ---- stretches of a cover

-- a byte that comes after a place
abbrev pub IsBeyond : Place → ℕ → ℕ → Type 0
IsBeyond p source at = (p.source < source) ⊎ ((p.source ≡ source) × (p.to ≤ at))

beyond_one : (source at : ℕ) (p : Place) (s : Stretch) → IsAfter p s.place → HasIt source at s → IsBeyond p source at
beyond_one source at p s (inl less) is = let same = is.source_is in inl (omega (arith, less, same))
beyond_one source at p s (inr next) is =
    let same = is.source_is in
    let from = is.from in
    inr (omega (arith, next.0, same), omega (arith, next.1, from))

beyond_more : (source at : ℕ) (p : Place) (s : Stretch) → IsAfter p s.place → s.place.from ≤ s.place.to → IsBeyond s.place source at → IsBeyond p source at
beyond_more source at p s (inl less) order (inl far) = inl (omega (arith, less, far))
beyond_more source at p s (inl less) order (inr here) = inl (omega (arith, less, here.0))
beyond_more source at p s (inr next) order (inl far) = inl (omega (arith, next.0, far))
beyond_more source at p s (inr next) order (inr here) = inr (omega (arith, next.0, here.0), omega (arith, next.1, here.1, order))

-- the stretches after a place have bytes beyond it only
pub far : (sources : ℕ) (p : Place) (cover : List Stretch) (source at : ℕ) → AreStretches sources (Some p) cover → 0 < had source at cover → IsBeyond p source at
far sources p [] source at are some = absurd (omega (arith, some))
far sources p (s ∷ more) source at are some = go (which source at s) (far sources s.place more source at are.1)
  where
    later : one source at s ≡ 0 → 0 < had source at more
    later none = omega (arith, none, some, had-cons source at s more)

    go : (HasIt source at s × (one source at s ≡ 1)) ⊎ (one source at s ≡ 0) → (0 < had source at more → IsBeyond s.place source at) → IsBeyond p source at
    go (inl has) rest = beyond_one source at p s are.0.is_after has.0
    go (inr none) rest = beyond_more source at p s are.0.is_after are.0.is_stretch.is_place.order (rest (later none))

pub none_or_some : (n : ℕ) → (n ≡ 0) ⊎ (0 < n)
none_or_some zero = inl refl
none_or_some (suc n) = inr (omega arith)

not_beyond : (source at : ℕ) (s : Stretch) → HasIt source at s → IsBeyond s.place source at → ⊥
not_beyond source at s is (inl less) = let same = is.source_is in omega (arith, less, same)
not_beyond source at s is (inr here) = let to = is.to in omega (arith, here.1, to)

-- each byte is had once at most
pub once : (sources : ℕ) (before : Option Place) (cover : List Stretch) (source at : ℕ) → AreStretches sources before cover → had source at cover ≤ 1
once sources before [] source at are = omega arith
once sources before (s ∷ more) source at are = go (which source at s) (none_or_some (had source at more)) (once sources (Some s.place) more source at are.1)
  where
    all : had source at (s ∷ more) ≡ one source at s + had source at more
    all = had-cons source at s more

    go : (HasIt source at s × (one source at s ≡ 1)) ⊎ (one source at s ≡ 0) → (had source at more ≡ 0) ⊎ (0 < had source at more) → had source at more ≤ 1 → had source at (s ∷ more) ≤ 1
    go (inr none) later rest = omega (arith, none, rest, all)
    go (inl has) (inl none) rest = omega (arith, has.1, none, all)
    go (inl has) (inr some) rest = absurd (not_beyond source at s has.0 (far sources s.place more source at are.1 some))
