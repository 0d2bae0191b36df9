-- A history in which each caller has just the calls that it had in a beginning is that beginning.
use Rattle.std.proofs.Common.{◌≡◌, ◌≢◌, ◌∙◌, ◌⊎◌, inl, inr, ℕ, ◌<◌, ◌≤◌, Bool, cond, List, [], ◌∷◌, ◌++◌, eq-eqb, refl, ap, sym, subst}
use Rattle.std.proofs.lemmas.Bool.{cases_eq, cases_lt}
use Rattle.lock_book.specs.declared.view.Entry.{Entry}
use Rattle.lock_book.specs.History.{StartsWith, calls_by, entry}
use Rattle.lock_book.proofs.Histories.{calls_by-append, calls_by_all, calls_by_others, nil_of}

module _ {S C R : Type 0} where
  of_nobody : (xs : List (Entry S C R)) → ((n : ℕ) → calls_by n xs ≡ []) → xs ≡ []
  of_nobody [] h = refl
  of_nobody (x ∷ xs) h = absurd (let a : x ∷ calls_by x.by xs ≡ [] = sym (ap (λ (b : Bool). cond b (x ∷ calls_by x.by xs) (calls_by x.by xs)) (eq-eqb x.by x.by refl)) ∙ h x.by in cc)

  append-nil : (xs : List (Entry S C R)) → xs ++ [] ≡ xs
  append-nil [] = refl
  append-nil (x ∷ xs) = ap (λ (l : List (Entry S C R)). x ∷ l) (append-nil xs)

  last-injective : (xs ys : List (Entry S C R)) (e : Entry S C R) → xs ++ e ∷ [] ≡ ys ++ e ∷ [] → xs ≡ ys
  last-injective [] [] e h = refl
  last-injective [] (y ∷ []) e h = absurd (cc)
  last-injective [] (y ∷ z ∷ ys) e h = absurd (cc)
  last-injective (x ∷ []) [] e h = absurd (cc)
  last-injective (x ∷ z ∷ xs) [] e h = absurd (cc)
  last-injective (x ∷ xs) (y ∷ ys) e h =
      let head : x ≡ y = cc in
      let tail : xs ++ e ∷ [] ≡ ys ++ e ∷ [] = cc in
      let rest = last-injective xs ys e tail in
      cc

  -- nothing stands behind what each caller has made
  pub all-seen : (before seen : List (Entry S C R)) → StartsWith before seen → ((n : ℕ) → calls_by n before ≡ calls_by n seen) → before ≡ seen
  all-seen before seen p same = p.1 ∙ (ap (λ (l : List (Entry S C R)). seen ++ l) (of_nobody p.0 none) ∙ append-nil seen)
    where
      none : (n : ℕ) → calls_by n p.0 ≡ []
      none n = nil_of (calls_by n seen) (calls_by n p.0) (sym (calls_by-append n seen p.0) ∙ (ap (calls_by n) (sym p.1) ∙ same n))

  -- one more call of the caller n, whose own calls are these
  pub before-call : (callers n : ℕ) (c : C) (r : R) (after : S) (before seen : List (Entry S C R)) → StartsWith before seen
      → calls_by n (before ++ entry n c r after ∷ []) ≡ calls_by n seen ++ entry n c r after ∷ []
      → ((m : ℕ) → m < callers → m ≢ n → calls_by m (before ++ entry n c r after ∷ []) ≡ calls_by m seen)
      → ((m : ℕ) → callers ≤ m → m ≢ n → calls_by m (before ++ entry n c r after ∷ []) ≡ calls_by m seen) → before ≡ seen
  before-call callers n c r after before seen p own others none = all-seen before seen p same
    where
      apart : (m : ℕ) → m ≢ n → calls_by m (before ++ entry n c r after ∷ []) ≡ calls_by m seen → calls_by m before ≡ calls_by m seen
      apart m differs is = sym (calls_by_others m n before (entry n c r after ∷ []) (refl, tt) (λ e. differs (sym e))) ∙ is

      same : (m : ℕ) → calls_by m before ≡ calls_by m seen
      same m = by (cases_eq m n) (cases_lt m callers)
        where
          by : (m ≡ n) ⊎ (m ≡ n → ⊥) → (m < callers) ⊎ (callers ≤ m) → calls_by m before ≡ calls_by m seen
          by (inl e) w = subst (λ (k : ℕ). calls_by k before ≡ calls_by k seen) (sym e) (last-injective (calls_by n before) (calls_by n seen) (entry n c r after) (sym (calls_by_all n before (entry n c r after ∷ []) (refl, tt)) ∙ own))
          by (inr d) (inl lt) = apart m d (others m lt d)
          by (inr d) (inr le) = apart m d (none m le d)
