-- Laws of histories: longer ones, beginnings, and one caller's calls.
use Rattle.std.proofs.Common.{◌≡◌, ◌≢◌, ℕ, zero, suc, ◌<◌, ◌≤◌, eqb, Bool, true, false, cond, List, [], ◌∷◌, ◌++◌, length, map, sym, refl, ap, ◌∙◌, subst, arith, append_assoc, append-nil, length-append, eq-eqb, ne_eqb}
use Rattle.std.specs.Prelude.{ltb}
use Rattle.std.proofs.lemmas.Bool.Decides.{nat_tests}
use mathlib.Core.Logic.{dite}
use native.Mathlib.Decide.{ℕ_discrete}
use Rattle.lock_book.specs.declared.view.Entry.{Entry}
use Rattle.lock_book.specs.History.{entry, last_of, calls_by, calls_at, AreBy, StartsWith, IsLegal, longer, row_at, put_row, longer_rows}

module _ {S C R : Type 0} where
  pub starts_refl : (xs : List (Entry S C R)) → StartsWith xs xs
  starts_refl xs = ([], sym (append-nil xs))

  pub starts_nil : (xs : List (Entry S C R)) → StartsWith xs []
  starts_nil xs = (xs, refl)

  pub starts_trans : (xs ys zs : List (Entry S C R)) → StartsWith xs ys → StartsWith ys zs → StartsWith xs zs
  starts_trans xs ys zs a b = (b.0 ++ a.0, a.1 ∙ (ap (λ (m : List (Entry S C R)). m ++ a.0) b.1 ∙ append_assoc zs b.0 a.0))

  pub starts_snoc : (xs ys zs : List (Entry S C R)) → StartsWith xs ys → StartsWith (xs ++ zs) ys
  starts_snoc xs ys zs a = (a.0 ++ zs, ap (λ (m : List (Entry S C R)). m ++ zs) a.1 ∙ append_assoc ys a.0 zs)

  kept : (b : Bool) (x : Entry S C R) (all xs ys : List (Entry S C R)) → all ≡ xs ++ ys → cond b (x ∷ all) all ≡ cond b (x ∷ xs) xs ++ ys
  kept true x all xs ys e = ap (λ (m : List (Entry S C R)). x ∷ m) e
  kept false x all xs ys e = e

  pub calls_by-append : (n : ℕ) (xs ys : List (Entry S C R)) → calls_by n (xs ++ ys) ≡ calls_by n xs ++ calls_by n ys
  calls_by-append n [] ys = refl
  calls_by-append n (x ∷ xs) ys = kept (eqb x.by n) x (calls_by n (xs ++ ys)) (calls_by n xs) (calls_by n ys) (calls_by-append n xs ys)

  pub calls_at-append : (i : ℕ) (xs ys : List (ℕ × Entry S C R)) → calls_at i (xs ++ ys) ≡ calls_at i xs ++ calls_at i ys
  calls_at-append i [] ys = refl
  calls_at-append i (x ∷ xs) ys = kept (eqb x.0 i) x.1 (calls_at i (xs ++ ys)) (calls_at i xs) (calls_at i ys) (calls_at-append i xs ys)

  -- entries of one caller are its own, and nobody else's
  calls_by_own : (n : ℕ) (es : List (Entry S C R)) → AreBy n es → calls_by n es ≡ es
  calls_by_own n [] by = refl
  calls_by_own n (e ∷ es) by = ap (λ (b : Bool). cond b (e ∷ calls_by n es) (calls_by n es)) (eq-eqb e.by n by.0) ∙ ap (λ (m : List (Entry S C R)). e ∷ m) (calls_by_own n es by.1)

  calls_by_none : (n m : ℕ) (es : List (Entry S C R)) → AreBy m es → m ≢ n → calls_by n es ≡ []
  calls_by_none n m [] by ne = refl
  calls_by_none n m (e ∷ es) by ne = ap (λ (b : Bool). cond b (e ∷ calls_by n es) (calls_by n es)) (ne_eqb e.by n (λ z. ne (sym by.0 ∙ z))) ∙ calls_by_none n m es by.1 ne

  pub calls_by_all : (n : ℕ) (xs es : List (Entry S C R)) → AreBy n es → calls_by n (xs ++ es) ≡ calls_by n xs ++ es
  calls_by_all n xs es by = calls_by-append n xs es ∙ ap (λ (m : List (Entry S C R)). calls_by n xs ++ m) (calls_by_own n es by)

  pub calls_by_others : (n m : ℕ) (xs es : List (Entry S C R)) → AreBy m es → m ≢ n → calls_by n (xs ++ es) ≡ calls_by n xs
  calls_by_others n m xs es by ne = calls_by-append n xs es ∙ (ap (λ (z : List (Entry S C R)). calls_by n xs ++ z) (calls_by_none n m es by ne) ∙ append-nil (calls_by n xs))

  calls_at_own : (i : ℕ) (es : List (Entry S C R)) → calls_at i (map (λ (e : Entry S C R). (i, e)) es) ≡ es
  calls_at_own i [] = refl
  calls_at_own i (e ∷ es) =
      let more : List (Entry S C R) = calls_at i (map (λ (e : Entry S C R). (i, e)) es) in
      ap (λ (b : Bool). cond b (e ∷ more) more) (eq-eqb i i refl) ∙ ap (λ (m : List (Entry S C R)). e ∷ m) (calls_at_own i es)

  calls_at_none : (i j : ℕ) (es : List (Entry S C R)) → j ≢ i → calls_at i (map (λ (e : Entry S C R). (j, e)) es) ≡ []
  calls_at_none i j [] ne = refl
  calls_at_none i j (e ∷ es) ne =
      let more : List (Entry S C R) = calls_at i (map (λ (e : Entry S C R). (j, e)) es) in
      ap (λ (b : Bool). cond b (e ∷ more) more) (ne_eqb j i ne) ∙ calls_at_none i j es ne

  pub calls_at_all : (i : ℕ) (xs : List (ℕ × Entry S C R)) (es : List (Entry S C R)) → calls_at i (xs ++ map (λ (e : Entry S C R). (i, e)) es) ≡ calls_at i xs ++ es
  calls_at_all i xs es = calls_at-append i xs (map (λ (e : Entry S C R). (i, e)) es) ∙ ap (λ (m : List (Entry S C R)). calls_at i xs ++ m) (calls_at_own i es)

  pub calls_at_others : (i j : ℕ) (xs : List (ℕ × Entry S C R)) (es : List (Entry S C R)) → j ≢ i → calls_at i (xs ++ map (λ (e : Entry S C R). (j, e)) es) ≡ calls_at i xs
  calls_at_others i j xs es ne = calls_at-append i xs (map (λ (e : Entry S C R). (j, e)) es) ∙ (ap (λ (m : List (Entry S C R)). calls_at i xs ++ m) (calls_at_none i j es ne) ∙ append-nil (calls_at i xs))

  pub by_snoc : (n : ℕ) (es : List (Entry S C R)) (e : Entry S C R) → AreBy n es → e.by ≡ n → AreBy n (es ++ e ∷ [])
  by_snoc n [] e by own = (own, tt)
  by_snoc n (x ∷ xs) e by own = (by.0, by_snoc n xs e by.1 own)

  -- a legal history, and what follows it
  pub legal-append : (legal : ℕ → S → C → R → S → Type 0) (s : S) (xs ys : List (Entry S C R)) → IsLegal legal s xs → IsLegal legal (last_of s xs) ys → IsLegal legal s (xs ++ ys)
  legal-append legal s [] ys h g = g
  legal-append legal s (x ∷ xs) ys h g = (h.0, legal-append legal x.after xs ys h.1 g)

  pub last-append : (s : S) (xs ys : List (Entry S C R)) → last_of s (xs ++ ys) ≡ last_of (last_of s xs) ys
  last-append s [] ys = refl
  last-append s (x ∷ xs) ys = last-append x.after xs ys

  pub legal_snoc : (legal : ℕ → S → C → R → S → Type 0) (s : S) (xs : List (Entry S C R)) (n : ℕ) (c : C) (r : R) (a : S) → IsLegal legal s xs → legal n (last_of s xs) c r a → IsLegal legal s (xs ++ entry n c r a ∷ [])
  legal_snoc legal s [] n c r a h l = (l, tt)
  legal_snoc legal s (x ∷ xs) n c r a h l = (h.0, legal_snoc legal x.after xs n c r a h.1 l)

  pub last_snoc : (s : S) (xs : List (Entry S C R)) (e : Entry S C R) → last_of s (xs ++ e ∷ []) ≡ e.after
  last_snoc s [] e = refl
  last_snoc s (x ∷ xs) e = last_snoc x.after xs e

  legal_front : (legal : ℕ → S → C → R → S → Type 0) (s : S) (xs ys : List (Entry S C R)) → IsLegal legal s (xs ++ ys) → IsLegal legal s xs
  legal_front legal s [] ys h = tt
  legal_front legal s (x ∷ xs) ys h = (h.0, legal_front legal x.after xs ys h.1)

  pub legal_prefix : (legal : ℕ → S → C → R → S → Type 0) (s : S) (log seen : List (Entry S C R)) → StartsWith log seen → IsLegal legal s log → IsLegal legal s seen
  legal_prefix legal s log seen p h = legal_front legal s seen p.0 (subst (IsLegal legal s) p.1 h)

  -- of two beginnings of one list the shorter begins the longer
  pub two_starts : (log xs ys : List (Entry S C R)) → StartsWith log xs → StartsWith log ys → length xs ≤ length ys → StartsWith ys xs
  two_starts log [] ys a b l = (ys, refl)
  two_starts log (x ∷ xs) [] a b l = absurd (omega arith)
  two_starts [] (x ∷ xs) (y ∷ ys) a b l = absurd (let e = a.1 in cc)
  two_starts (z ∷ zs) (x ∷ xs) (y ∷ ys) a b l =
      let p = a.1 in
      let q = b.1 in
      let px : zs ≡ xs ++ a.0 = cc in
      let py : zs ≡ ys ++ b.0 = cc in
      let same : y ≡ x = cc in
      let r = two_starts zs xs ys (a.0, px) (b.0, py) (omega arith) in
      (r.0, λ k. same k ∷ r.1 k)

  pub same_starts : (xs ys : List (Entry S C R)) → StartsWith xs ys → StartsWith ys xs → xs ≡ ys
  same_starts xs ys a b = none a.0 (let l = ap length a.1 in let m = ap length b.1 in omega (arith, length-append ys a.0, length-append xs b.0)) a.1
    where
      none : (zs : List (Entry S C R)) → length zs ≡ 0 → xs ≡ ys ++ zs → xs ≡ ys
      none [] e h = h ∙ append-nil ys
      none (z ∷ zs) e h = absurd (omega arith)

  longer_cases : (P : List (Entry S C R) → Type 0) (xs ys : List (Entry S C R)) → (length xs < length ys → P ys) → (length ys ≤ length xs → P xs) → P (longer xs ys)
  longer_cases P xs ys a b = go (ltb (length xs) (length ys)) refl
    where
      go : (t : Bool) → ltb (length xs) (length ys) ≡ t → P (cond t ys xs)
      go true e = a (grind (arith, nat_tests))
      go false e = b (grind (arith, nat_tests))

  pub longer_of : (log xs ys : List (Entry S C R)) → StartsWith log xs → StartsWith log ys → StartsWith log (longer xs ys) × StartsWith (longer xs ys) xs × StartsWith (longer xs ys) ys
  longer_of log xs ys a b = longer_cases (λ z. StartsWith log z × StartsWith z xs × StartsWith z ys) xs ys
      (λ l. (b, two_starts log xs ys a b (omega arith), starts_refl ys))
      (λ l. (a, starts_refl xs, two_starts log ys xs b a l))

  pub nil_of : (xs ys : List (Entry S C R)) → xs ++ ys ≡ xs → ys ≡ []
  nil_of [] ys e = e
  nil_of (x ∷ xs) ys e = nil_of xs ys (cc)

  pub front_nil : (xs ys : List (Entry S C R)) → xs ++ ys ≡ [] → xs ≡ []
  front_nil [] ys e = refl
  front_nil (x ∷ xs) ys e = absurd (cc)

  -- a caller's calls are all in what it has seen, and so in all between that and the whole
  pub calls_between : (n : ℕ) (log mid seen : List (Entry S C R)) → StartsWith log mid → StartsWith mid seen → calls_by n seen ≡ calls_by n log → calls_by n mid ≡ calls_by n log
  calls_between n log mid seen a b e =
      let whole : calls_by n log ≡ calls_by n seen ++ (calls_by n b.0 ++ calls_by n a.0) =
      ap (calls_by n) a.1 ∙ (calls_by-append n mid a.0 ∙ (ap (λ (m : List (Entry S C R)). calls_by n m ++ calls_by n a.0) b.1
      ∙ (ap (λ (m : List (Entry S C R)). m ++ calls_by n a.0) (calls_by-append n seen b.0) ∙ append_assoc (calls_by n seen) (calls_by n b.0) (calls_by n a.0)))) in
      let none = front_nil (calls_by n b.0) (calls_by n a.0) (nil_of (calls_by n seen) (calls_by n b.0 ++ calls_by n a.0) (sym whole ∙ sym e)) in
      ap (calls_by n) b.1 ∙ (calls_by-append n seen b.0 ∙ (ap (λ (m : List (Entry S C R)). calls_by n seen ++ m) none ∙ (append-nil (calls_by n seen) ∙ e)))

  -- a caller with no call in the whole has none in a beginning
  pub calls_none : (n : ℕ) (log seen : List (Entry S C R)) → StartsWith log seen → calls_by n log ≡ [] → calls_by n seen ≡ []
  calls_none n log seen p e = front_nil (calls_by n seen) (calls_by n p.0) (sym (calls_by-append n seen p.0) ∙ (sym (ap (calls_by n) p.1) ∙ e))

  -- what begins a list is no longer than it
  pub longer_front : (xs ys : List (Entry S C R)) → StartsWith xs ys → longer xs ys ≡ xs
  longer_front xs ys p = longer_cases (λ z. z ≡ xs) xs ys (λ l. absurd (omega (arith, ap length p.1, length-append ys p.0))) (λ l. refl)

  longer_nil : (xs : List (Entry S C R)) → xs ≡ longer xs []
  longer_nil xs = longer_cases (λ z. xs ≡ z) xs [] (λ l. absurd (omega arith)) (λ l. refl)

  nil_longer : (ys : List (Entry S C R)) → ys ≡ longer [] ys
  nil_longer [] = refl
  nil_longer (y ∷ ys) = longer_cases (λ z. y ∷ ys ≡ z) [] (y ∷ ys) (λ l. refl) (λ l. absurd (omega arith))

  pub row_longer : (xs ys : List (List (Entry S C R))) (i : ℕ) → row_at (longer_rows xs ys) i ≡ longer (row_at xs i) (row_at ys i)
  row_longer [] ys i = nil_longer (row_at ys i)
  row_longer (x ∷ xs) [] i = longer_nil (row_at (x ∷ xs) i)
  row_longer (x ∷ xs) (y ∷ ys) zero = refl
  row_longer (x ∷ xs) (y ∷ ys) (suc i) = row_longer xs ys i

module _ {A : Type 0} where
  pub row_here : (xs : List (List A)) (i : ℕ) (y : List A) → row_at (put_row xs i y) i ≡ y
  row_here [] zero y = refl
  row_here [] (suc i) y = row_here [] i y
  row_here (x ∷ xs) zero y = refl
  row_here (x ∷ xs) (suc i) y = row_here xs i y

  pub row_else : (xs : List (List A)) (i j : ℕ) (y : List A) → j ≢ i → row_at (put_row xs i y) j ≡ row_at xs j
  row_else [] zero zero y n = absurd (n refl)
  row_else [] zero (suc j) y n = refl
  row_else [] (suc i) zero y n = refl
  row_else [] (suc i) (suc j) y n = row_else [] i j y (λ e. n (ap suc e))
  row_else (x ∷ xs) zero zero y n = absurd (n refl)
  row_else (x ∷ xs) zero (suc j) y n = refl
  row_else (x ∷ xs) (suc i) zero y n = refl
  row_else (x ∷ xs) (suc i) (suc j) y n = row_else xs i j y (λ e. n (ap suc e))

module _ {S C R : Type 0} where
  of_longer : (P : List (Entry S C R) → Type 0) (xs ys : List (Entry S C R)) → P xs → P ys → P (longer xs ys)
  of_longer P xs ys p q = go (ltb (length xs) (length ys))
    where
      go : (t : Bool) → P (cond t ys xs)
      go true = q
      go false = p

  -- the longer of two beginnings of one list, whichever comes first
  pub longer_same : (xs ys : List (Entry S C R)) → StartsWith (longer xs ys) xs → StartsWith (longer xs ys) ys → StartsWith (longer ys xs) xs → StartsWith (longer ys xs) ys → longer xs ys ≡ longer ys xs
  longer_same xs ys a b c d = same_starts (longer xs ys) (longer ys xs) (of_longer (StartsWith (longer xs ys)) ys xs b a) (of_longer (StartsWith (longer ys xs)) xs ys c d)

-- a fact of one place, and of each other
pub at_place : (P : ℕ → Type 0) (at : ℕ) → P at → ((j : ℕ) → j ≢ at → P j) → (j : ℕ) → P j
at_place P at here others j = dite (ℕ_discrete j at) (λ e. subst P (sym e) here) (λ ne. others j ne)
