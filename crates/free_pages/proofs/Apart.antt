-- The granted runs that run words show stand in the order of their pages, and none has a page in common with another.
use Rattle.std.proofs.Common.{◌≡◌, ◌≢◌, ℕ, zero, suc, ◌+◌, ◌/◌, ◌%◌, ◌<◌, ◌≤◌, ◌==◌, ⊎_elim, Bool, true, false, cond, List, [], ◌∷◌, ◌++◌, refl, sym, ap, subst, ◌∙◌, arith}
use Rattle.std.proofs.lemmas.Bool.{cases_lt, eqb-false}
use Rattle.free_pages.specs.Legal.{Granted, Adds, AreApart}
use Rattle.free_pages.specs.Runs.{granted_of, granted_at, IsLaid}

apart_from : (n p low : ℕ) (w : ℕ → ℕ) (pages : ℕ) → IsLaid w pages → p + n ≡ pages → ((k : ℕ) → p ≤ k → k < low → w k ≡ 0) → AreApart pages low (granted_of w p n)
apart_from zero p low w pages l e zeros = tt
apart_from (suc n) p low w pages l e zeros = go (w p % 4 == 0) refl
    (apart_from n (suc p) low w pages l (omega arith) (λ k a b. zeros k (omega arith) b))
    (λ more. apart_from n (suc p) (p + w p / 4) w pages l (omega arith) more)
  where
    go : (b : Bool) → (w p % 4 == 0) ≡ b → AreApart pages low (granted_of w (suc p) n)
        → (((k : ℕ) → suc p ≤ k → k < p + w p / 4 → w k ≡ 0) → AreApart pages (p + w p / 4) (granted_of w (suc p) n))
        → AreApart pages low (cond b (granted_of w (suc p) n) (granted_at p (w p) ∷ granted_of w (suc p) n))
    go true s same more = same
    go false s same more =
        let odd : w p % 4 ≢ 0 = eqb-false (w p % 4) 0 s in
        let some : 0 < w p = positive (w p) odd in
        let h = l.heads p (omega arith) some in
        let start : low ≤ p = ⊎_elim
        (λ (x : p < low). absurd (let z = zeros p (omega arith) x in omega arith))
        (λ (x : low ≤ p). x)
        (cases_lt p low) in
        (start, h.long, h.inside, more (λ k a b. h.zeros k (omega arith) b))
      where
        positive : (x : ℕ) → x % 4 ≢ 0 → 0 < x
        positive x m = omega arith

pub granted_apart : (w : ℕ → ℕ) (pages : ℕ) → IsLaid w pages → AreApart pages 0 (granted_of w 0 pages)
granted_apart w pages l = apart_from pages 0 0 w pages l (omega arith) (λ k a b. absurd (omega arith))

later : (pages low : ℕ) (xs ys : List Granted) (g : Granted) → AreApart pages low (xs ++ (g ∷ ys)) → low ≤ g.from
later pages low [] ys g a = a.0
later pages low (x ∷ xs) ys g a = let z = later pages (x.from + x.len) xs ys g a.3 in let y = a.0 in omega arith

-- a run stands once in the list of granted runs, so what is left without it is one list
pub one_rest : (pages low : ℕ) (xs ys us vs : List Granted) (g : Granted) → AreApart pages low (xs ++ (g ∷ ys)) → xs ++ (g ∷ ys) ≡ us ++ (g ∷ vs) → xs ++ ys ≡ us ++ vs
one_rest pages low [] ys [] vs g a e = let z : ys ≡ vs = cc in z
one_rest pages low [] ys (u ∷ us) vs g a e =
    let first : g ≡ u = cc in
    let rest : ys ≡ us ++ (g ∷ vs) = cc in
    let z = later pages (g.from + g.len) us vs g (subst (λ (l : List Granted). AreApart pages (g.from + g.len) l) rest a.3) in
    let y = a.1 in
    absurd (omega arith)
one_rest pages low (x ∷ xs) ys [] vs g a e =
    let first : x ≡ g = cc in
    let z = later pages (x.from + x.len) xs ys g a.3 in
    let y = a.1 in
    absurd (let f : x.from ≡ g.from = ap (λ (h : Granted). h.from) first in omega arith)
one_rest pages low (x ∷ xs) ys (u ∷ us) vs g a e =
    let first : x ≡ u = cc in
    let rest : xs ++ (g ∷ ys) ≡ us ++ (g ∷ vs) = cc in
    let more = one_rest pages (x.from + x.len) xs ys us vs g a.3 rest in
    cc

-- so a run that is granted and given back leaves the list as it was
pub back_as_before : (pages : ℕ) (before between after : List Granted) (g : Granted) → AreApart pages 0 between → Adds before between g → Adds after between g → after ≡ before
back_as_before pages before between after g a x y =
    let s = one_rest pages 0 x.0 x.1 y.0 y.1 g (subst (AreApart pages 0) x.3 a) (sym x.3 ∙ y.3) in
    y.2 ∙ sym s ∙ sym x.2
