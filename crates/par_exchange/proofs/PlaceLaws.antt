-- Places in a row, each with a token or with none.
use Rattle.std.proofs.Common.{◌≡◌, ◌≢◌, ℕ, zero, suc, ◌+◌, ◌<◌, ◌≤◌, Bool, true, false, List, [], ◌∷◌, ◌++◌, length, take, drop, set, replicate, refl, sym, ap, ◌∙◌, arith, get_or-set_other, get_or-set_same}
use Rattle.std.specs.Prelude.{Option, Some, None, is_some}
use Rattle.std.proofs.lemmas.List.{length-map}
use Rattle.std.proofs.Math.ListN.{get_or-map}
use Rattle.std.proofs.Math.Seq.{take-append_seam}
use Rattle.par_exchange.specs.States.{at, cleared, takes_part, who}

-- the list of places after a call over all of them
pub after_all : {A : Type 0} (old new : List A) (n : ℕ) → n ≡ length new → take n (new ++ drop (length new) old) ≡ new
after_all {A} old new n e = ap (λ (k : ℕ). take k (new ++ drop (length new) old)) e ∙ take-append_seam new (drop (length new) old)

pub true-false : (b : Bool) → b ≡ true → b ≡ false → ⊥
true-false b e f = let k : true ≡ false = sym e ∙ f in absurd (cc)

-- a party that has left, and one that has not
pub left_same : (ms : List Bool) (n : ℕ) → takes_part n (set ms n false) ≡ false
left_same [] n = refl
left_same (m ∷ ms) zero = refl
left_same (m ∷ ms) (suc n) = left_same ms n

pub left_other : (ms : List Bool) (n k : ℕ) → k ≢ n → takes_part k (set ms n false) ≡ takes_part k ms
left_other ms n k ne = get_or-set_other ms n k false false ne

pub all_there : (n k : ℕ) → k < n → takes_part k (replicate n true) ≡ true
all_there zero k lt = absurd (omega (arith, lt))
all_there (suc n) zero lt = refl
all_there (suc n) (suc k) lt = all_there n k (omega (arith, lt))

module _ {T : Type 0} where
  pub some-none : (x : T) → Some x ≡ None → ⊥
  some-none x e = cc

  -- the token at a place that something was put into
  pub at_same : (ps : List (Option T)) (n : ℕ) (v : Option T) → n < length ps → at (set ps n v) n ≡ v
  at_same ps n v lt = get_or-set_same ps n v None lt

  pub at_other : (ps : List (Option T)) (n k : ℕ) (v : Option T) → k ≢ n → at (set ps n v) k ≡ at ps k
  at_other ps n k v ne = get_or-set_other ps n k v None ne

  -- a place that had none has none still
  pub set_none : (ps : List (Option T)) (n : ℕ) → at ps n ≡ None → set ps n None ≡ ps
  set_none [] n e = refl
  set_none (p ∷ ps) zero e = ap (λ (q : Option T). q ∷ ps) (sym e)
  set_none (p ∷ ps) (suc n) e = ap (λ (qs : List (Option T)). p ∷ qs) (set_none ps n e)

  -- no place of this many empty ones has a token
  pub at_cleared : (ps : List (Option T)) (k : ℕ) → at (cleared ps) k ≡ None
  at_cleared [] k = refl
  at_cleared (p ∷ ps) zero = refl
  at_cleared (p ∷ ps) (suc k) = at_cleared ps k

  pub at_fresh : (n k : ℕ) → at (replicate {A = Option T} n None) k ≡ None
  at_fresh zero k = refl
  at_fresh (suc n) zero = refl
  at_fresh (suc n) (suc k) = at_fresh n k

  pub at_within : (ps : List (Option T)) (k : ℕ) (x : T) → at ps k ≡ Some x → k < length ps
  at_within [] k x e = absurd (some-none x (sym e))
  at_within (p ∷ ps) zero x e = omega arith
  at_within (p ∷ ps) (suc k) x e = let lt = at_within ps k x e in omega arith

  -- as many empty places as there were places
  pub cleared_all : (ps : List (Option T)) → replicate {A = Option T} (length ps) None ≡ cleared ps
  cleared_all [] = refl
  cleared_all (p ∷ ps) = ap (λ (qs : List (Option T)). None ∷ qs) (cleared_all ps)

  pub cleared_put : (ps : List (Option T)) (n : ℕ) (v : Option T) → cleared (set ps n v) ≡ cleared ps
  cleared_put [] n v = refl
  cleared_put (p ∷ ps) zero v = refl
  cleared_put (p ∷ ps) (suc n) v = ap (λ (l : List (Option T)). None ∷ l) (cleared_put ps n v)

  -- whether a place has a token
  pub who_at : (ps : List (Option T)) (k : ℕ) → takes_part k (who ps) ≡ is_some (at ps k)
  who_at ps k = get_or-map (λ (p : Option T). is_some p) ps k None

  pub is_none-some : (o : Option T) → is_some o ≡ false → o ≡ None
  is_none-some None e = refl
  is_none-some (Some x) e = absurd (cc)

  pub some_of : (o : Option T) → is_some o ≡ true → (x : T) × (o ≡ Some x)
  some_of None e = absurd (cc)
  some_of (Some x) e = (x, refl)

  -- if exactly these parties have a token
  pub has_token : (ps : List (Option T)) (ms : List Bool) (k : ℕ) → who ps ≡ ms → takes_part k ms ≡ true → (x : T) × (at ps k ≡ Some x)
  has_token ps ms k e here = some_of (at ps k) (sym (who_at ps k) ∙ (ap (takes_part k) e ∙ here))

  pub is_here : (ps : List (Option T)) (ms : List Bool) (k : ℕ) (x : T) → who ps ≡ ms → at ps k ≡ Some x → takes_part k ms ≡ true
  is_here ps ms k x e a = ap (takes_part k) (sym e) ∙ (who_at ps k ∙ ap (λ (o : Option T). is_some o) a)

  pub is_missing : (ps : List (Option T)) (ms : List Bool) (k : ℕ) → who ps ≡ ms → at ps k ≡ None → takes_part k ms ≡ false
  is_missing ps ms k e a = ap (takes_part k) (sym e) ∙ (who_at ps k ∙ ap (λ (o : Option T). is_some o) a)

  pub not_missing : (ps : List (Option T)) (ms : List Bool) (k : ℕ) → who ps ≡ ms → takes_part k ms ≡ true → at ps k ≡ None → ⊥
  not_missing ps ms k e here a = true-false (takes_part k ms) here (is_missing ps ms k e a)

module _ {A : Type 0} where
  -- this many of the same, and one more
  same_snoc : (n : ℕ) (a : A) → replicate n a ++ a ∷ [] ≡ replicate (suc n) a
  same_snoc zero a = refl
  same_snoc (suc n) a = ap (λ (l : List A). a ∷ l) (same_snoc n a)

  pub one_more : (n : ℕ) (a : A) → replicate n a ++ a ∷ [] ≡ replicate (n + 1) a
  one_more n a = let e : suc n ≡ n + 1 = omega arith in same_snoc n a ∙ ap (λ (k : ℕ). replicate k a) e

module _ {T : Type 0} where
  -- the places of which the first n were emptied
  abbrev pub mixed : ℕ → List (Option T) → List (Option T)
  mixed zero ps = ps
  mixed (suc n) [] = []
  mixed (suc n) (p ∷ ps) = None ∷ mixed n ps

  mixed_suc : (n : ℕ) (ps : List (Option T)) → n < length ps → set (mixed n ps) n None ≡ mixed (suc n) ps
  mixed_suc zero [] lt = absurd (omega (arith, lt))
  mixed_suc zero (p ∷ ps) lt = refl
  mixed_suc (suc n) [] lt = absurd (omega (arith, lt))
  mixed_suc (suc n) (p ∷ ps) lt = ap (λ (l : List (Option T)). None ∷ l) (mixed_suc n ps (omega (arith, lt)))

  -- one more was emptied
  pub mixed_more : (n : ℕ) (ps : List (Option T)) → n < length ps → set (mixed n ps) n None ≡ mixed (n + 1) ps
  mixed_more n ps lt = let e : suc n ≡ n + 1 = omega arith in mixed_suc n ps lt ∙ ap (λ (k : ℕ). mixed k ps) e

  -- all were
  pub mixed_all : (n : ℕ) (ps : List (Option T)) → length ps ≤ n → mixed n ps ≡ cleared ps
  mixed_all zero [] le = refl
  mixed_all zero (p ∷ ps) le = absurd (omega (arith, le))
  mixed_all (suc n) [] le = refl
  mixed_all (suc n) (p ∷ ps) le = ap (λ (l : List (Option T)). None ∷ l) (mixed_all n ps (omega (arith, le)))

  -- the first places agree with their marks
  abbrev pub Agree : ℕ → List (Option T) → List Bool → Type 0
  Agree n ps ms = (k : ℕ) → k < n → takes_part k (who ps) ≡ takes_part k ms

same_marks : (xs ys : List Bool) → length xs ≡ length ys → ((k : ℕ) → k < length xs → takes_part k xs ≡ takes_part k ys) → xs ≡ ys
same_marks [] [] n f = refl
same_marks [] (y ∷ ys) n f = absurd (omega (arith, n))
same_marks (x ∷ xs) [] n f = absurd (omega (arith, n))
same_marks (x ∷ xs) (y ∷ ys) n f = λ i. f 0 (omega arith) i ∷ same_marks xs ys (omega (arith, n)) (λ k lt. f (suc k) (omega (arith, lt))) i

-- if all agree, exactly the marked places have a token
pub agree_all : {T : Type 0} (ps : List (Option T)) (ms : List Bool) → length ps ≡ length ms → Agree (length ps) ps ms → who ps ≡ ms
agree_all {T} ps ms n f = let m = length-map ps (λ (p : Option T). is_some p) in same_marks (who ps) ms (m ∙ n) (λ k lt. f k (omega (arith, lt, m)))
