-- The list of granted runs that run words show, and how it changes.
use Rattle.std.proofs.Common.{◌≡◌, ◌≢◌, ℕ, zero, suc, ◌+◌, ◌*◌, ◌/◌, ◌%◌, ◌<◌, ◌≤◌, ◌==◌, Bool, true, false, cond, ◌&&◌, ◌||◌, List, [], ◌∷◌, ◌++◌, ◌⊎◌, inl, inr, ⊎_elim, refl, sym, ap, subst, ◌∙◌, arith}
use mathlib.Core.Logic.{dite}
use native.Mathlib.Decide.{ℕ_discrete}
use Rattle.std.proofs.lemmas.Bool.{or_cases, eq-eqb, ne_eqb, eqb-true, eqb-false, or_left, or_right, false_from_ne_true}
use Rattle.word_map.specs.WordMap.{is_within}
use Rattle.word_map.proofs.Maps.{within_is, within_true}
use Rattle.free_pages.specs.Legal.{Granted, is_taken, is_recorded, Adds}
use Rattle.free_pages.specs.Runs.{emit, granted_at, granted_of, IsLaid}
use Rattle.free_pages.proofs.Laid.{one_run}

pub emit_none : (p x : ℕ) (rest : List Granted) → x % 4 ≡ 0 → emit p x rest ≡ rest
emit_none p x rest e = ap (λ (b : Bool). cond b rest (granted_at p x ∷ rest)) (eq-eqb (x % 4) 0 e)

emit_one : (p x : ℕ) (rest : List Granted) → 0 < x % 4 → emit p x rest ≡ granted_at p x ∷ rest
emit_one p x rest h = ap (λ (b : Bool). cond b rest (granted_at p x ∷ rest)) (ne_eqb (x % 4) 0 (λ e. omega arith))

emit_same : (p x y : ℕ) (rest : List Granted) → (x ≡ y) ⊎ ((y % 4 ≡ 0) × (x % 4 ≡ 0)) → emit p x rest ≡ emit p y rest
emit_same p x y rest h = ⊎_elim
    (λ (e : x ≡ y). ap (λ (z : ℕ). emit p z rest) e)
    (λ (e : (y % 4 ≡ 0) × (x % 4 ≡ 0)). emit_none p x rest e.1 ∙ sym (emit_none p y rest e.0))
    h

-- words that change from free to free change no granted run
pub granted_same : (n p : ℕ) (w v : ℕ → ℕ) → ((k : ℕ) → p ≤ k → k < p + n → (v k ≡ w k) ⊎ ((w k % 4 ≡ 0) × (v k % 4 ≡ 0))) → granted_of v p n ≡ granted_of w p n
granted_same zero p w v h = refl
granted_same (suc n) p w v h =
    ap (emit p (v p)) (granted_same n (suc p) w v (λ k a b. h k (omega arith) (omega arith)))
    ∙ emit_same p (v p) (w p) (granted_of w (suc p) n) (h p (omega arith) (omega arith))

adds_one : (g h : Granted) (xs ys : List Granted) → Adds xs ys g → Adds (h ∷ xs) (h ∷ ys) g
adds_one g h xs ys a = (h ∷ a.0, a.1, ap (λ (l : List Granted). h ∷ l) a.2, ap (λ (l : List Granted). h ∷ l) a.3)

adds_emit : (p x : ℕ) (g : Granted) (xs ys : List Granted) → Adds xs ys g → Adds (emit p x xs) (emit p x ys) g
adds_emit p x g xs ys a = go (x % 4 == 0)
  where
    go : (b : Bool) → Adds (cond b xs (granted_at p x ∷ xs)) (cond b ys (granted_at p x ∷ ys)) g
    go true = a
    go false = adds_one g (granted_at p x) xs ys a

-- a word that changes from free to granted adds its run
pub granted_more : (n p q : ℕ) (w v : ℕ → ℕ) → p ≤ q → q < p + n → w q % 4 ≡ 0 → 0 < v q % 4 → ((k : ℕ) → k ≢ q → v k ≡ w k)
    → Adds (granted_of w p n) (granted_of v p n) (granted_at q (v q))
granted_more zero p q w v a b e h same = absurd (omega arith)
granted_more (suc n) p q w v a b e h same = dite (ℕ_discrete p q)
    (λ (s : p ≡ q).
    let rest : granted_of v (suc p) n ≡ granted_of w (suc p) n = granted_same n (suc p) w v (λ k x y. inl (same k (omega arith))) in (
      [],
      granted_of w (suc p) n,
      subst (λ (z : ℕ). emit z (w z) (granted_of w (suc p) n) ≡ granted_of w (suc p) n) (sym s) (emit_none q (w q) (granted_of w (suc p) n) e),
      ap (emit p (v p)) rest ∙ subst (λ (z : ℕ). emit z (v z) (granted_of w (suc p) n) ≡ (granted_at q (v q) ∷ granted_of w (suc p) n)) (sym s) (emit_one q (v q) (granted_of w (suc p) n) h),
    ))
    (λ (m : p ≢ q).
    subst (λ (z : ℕ). Adds (emit p (w p) (granted_of w (suc p) n)) (emit p z (granted_of v (suc p) n)) (granted_at q (v q))) (sym (same p m))
    (adds_emit p (w p) (granted_at q (v q)) (granted_of w (suc p) n) (granted_of v (suc p) n) (granted_more n (suc p) q w v (omega arith) (omega arith) e h same)))

-- what is taken with one run more
pub taken_adds : (xs ys : List Granted) (g : Granted) (k : ℕ) → is_taken (xs ++ (g ∷ ys)) k ≡ (is_within g.from g.len k || is_taken (xs ++ ys) k)
taken_adds [] ys g k = refl
taken_adds (x ∷ xs) ys g k = ap (λ (b : Bool). is_within x.from x.len k || b) (taken_adds xs ys g k) ∙ swap_or (is_within x.from x.len k) (is_within g.from g.len k) (is_taken (xs ++ ys) k)
  where
    swap_or : (a b c : Bool) → (a || (b || c)) ≡ (b || (a || c))
    swap_or true true c = refl
    swap_or true false c = refl
    swap_or false b c = refl

pub recorded_adds : (xs ys : List Granted) (g : Granted) (k : ℕ) → is_recorded (xs ++ (g ∷ ys)) k ≡ ((g.control && is_within g.from g.len k) || is_recorded (xs ++ ys) k)
recorded_adds [] ys g k = refl
recorded_adds (x ∷ xs) ys g k = ap (λ (b : Bool). (x.control && is_within x.from x.len k) || b) (recorded_adds xs ys g k) ∙ swap_or (x.control && is_within x.from x.len k) (g.control && is_within g.from g.len k) (is_recorded (xs ++ ys) k)
  where
    swap_or : (a b c : Bool) → (a || (b || c)) ≡ (b || (a || c))
    swap_or true true c = refl
    swap_or true false c = refl
    swap_or false b c = refl

abbrev Takes : (ℕ → ℕ) → ℕ → ℕ → ℕ → Type 0
Takes w p n k = (h : ℕ) × (p ≤ h) × (h < p + n) × (0 < w h % 4) × (h ≤ k) × (k < h + w h / 4)

taken_emit : (p x k : ℕ) (rest : List Granted) → is_taken (emit p x rest) k ≡ true → ((0 < x % 4) × (is_within p (x / 4) k ≡ true)) ⊎ (is_taken rest k ≡ true)
taken_emit p x k rest e = go (x % 4 == 0) refl e
  where
    go : (b : Bool) → (x % 4 == 0) ≡ b → is_taken (cond b rest (granted_at p x ∷ rest)) k ≡ true → ((0 < x % 4) × (is_within p (x / 4) k ≡ true)) ⊎ (is_taken rest k ≡ true)
    go true s t = inr t
    go false s t = ⊎_elim
        (λ (u : is_within p (x / 4) k ≡ true). inl (above (x % 4) (eqb-false (x % 4) 0 s), u))
        (λ (u : is_taken rest k ≡ true). inr u)
        (or_cases (is_within p (x / 4) k) (is_taken rest k) t)
      where
        above : (y : ℕ) → y ≢ 0 → 0 < y
        above y m = omega arith

-- a page that is taken is in a run whose word says granted
pub taken_from : (n p k : ℕ) (w : ℕ → ℕ) → is_taken (granted_of w p n) k ≡ true → Takes w p n k
taken_from zero p k w e = cc
taken_from (suc n) p k w e = ⊎_elim
    (λ (u : (0 < w p % 4) × (is_within p (w p / 4) k ≡ true)). let i = within_is p (w p / 4) k u.1 in (p, omega arith, omega arith, u.0, i.0, i.1))
    (λ (u : is_taken (granted_of w (suc p) n) k ≡ true). let r = taken_from n (suc p) k w u in (r.0, omega arith, omega arith, r.3, r.4, r.5))
    (taken_emit p (w p) k (granted_of w (suc p) n) e)

taken_rest : (p x k : ℕ) (rest : List Granted) → is_taken rest k ≡ true → is_taken (emit p x rest) k ≡ true
taken_rest p x k rest e = go (x % 4 == 0)
  where
    go : (b : Bool) → is_taken (cond b rest (granted_at p x ∷ rest)) k ≡ true
    go true = e
    go false = or_right (is_within p (x / 4) k) (is_taken rest k) e

pub of_taken : (n p k h : ℕ) (w : ℕ → ℕ) → p ≤ h → h < p + n → 0 < w h % 4 → h ≤ k → k < h + w h / 4 → is_taken (granted_of w p n) k ≡ true
of_taken zero p k h w a b c d e = absurd (omega arith)
of_taken (suc n) p k h w a b c d e = dite (ℕ_discrete p h)
    (λ (s : p ≡ h).
    subst (λ (z : ℕ). is_taken (emit z (w z) (granted_of w (suc p) n)) k ≡ true) (sym s)
    (ap (λ (l : List Granted). is_taken l k) (emit_one h (w h) (granted_of w (suc p) n) c) ∙ or_left (is_within h (w h / 4) k) (is_taken (granted_of w (suc p) n) k) (within_true h (w h / 4) k d e)))
    (λ (m : p ≢ h). taken_rest p (w p) k (granted_of w (suc p) n) (of_taken n (suc p) k h w (omega arith) (omega arith) c d e))

-- the pages of a free run are not taken
pub free_in : (w : ℕ → ℕ) (pages p k : ℕ) → IsLaid w pages → p < pages → 0 < w p → w p % 4 ≡ 0 → p ≤ k → k < p + w p / 4 → is_taken (granted_of w 0 pages) k ≡ false
free_in w pages p k l low some free a b = false_from_ne_true (is_taken (granted_of w 0 pages) k) (λ e.
    let t = taken_from pages 0 k w e in
    one_run w pages t.0 p k l (omega arith) (omega arith) low some t.4 t.5 a b (λ s. let z : w t.0 ≡ w p = ap w s in omega arith))

-- a granted run of the list is one that a run word shows
pub listed : (n p : ℕ) (w : ℕ → ℕ) (xs ys : List Granted) (g : Granted) → granted_of w p n ≡ xs ++ (g ∷ ys) → (h : ℕ) × (p ≤ h) × (h < p + n) × (0 < w h % 4) × (g ≡ granted_at h (w h))
listed zero p w [] ys g e = cc
listed zero p w (x ∷ xs) ys g e = cc
listed (suc n) p w xs ys g e = go (λ xs e. listed n (suc p) w xs ys g e) (w p % 4 == 0) refl xs e
  where
    further : ((xs : List Granted) → granted_of w (suc p) n ≡ xs ++ (g ∷ ys) → (h : ℕ) × (suc p ≤ h) × (h < suc p + n) × (0 < w h % 4) × (g ≡ granted_at h (w h)))
        → (xs : List Granted) → granted_of w (suc p) n ≡ xs ++ (g ∷ ys) → (h : ℕ) × (p ≤ h) × (h < p + suc n) × (0 < w h % 4) × (g ≡ granted_at h (w h))
    further ih xs e = let r = ih xs e in (r.0, omega arith, omega arith, r.3, r.4)

    above : (y : ℕ) → y ≢ 0 → 0 < y
    above y m = omega arith

    go : ((xs : List Granted) → granted_of w (suc p) n ≡ xs ++ (g ∷ ys) → (h : ℕ) × (suc p ≤ h) × (h < suc p + n) × (0 < w h % 4) × (g ≡ granted_at h (w h)))
        → (b : Bool) → (w p % 4 == 0) ≡ b → (xs : List Granted) → cond b (granted_of w (suc p) n) (granted_at p (w p) ∷ granted_of w (suc p) n) ≡ xs ++ (g ∷ ys)
        → (h : ℕ) × (p ≤ h) × (h < p + suc n) × (0 < w h % 4) × (g ≡ granted_at h (w h))
    go ih true s xs e = further ih xs e
    go ih false s [] e = (p, omega arith, omega arith, above (w p % 4) (eqb-false (w p % 4) 0 s), (let z : g ≡ granted_at p (w p) = cc in z))
    go ih false s (x ∷ xs) e = further ih xs (let z : granted_of w (suc p) n ≡ xs ++ (g ∷ ys) = cc in z)

-- the run word of a granted run
pub mark_word : (w n : ℕ) (c : Bool) → 0 < w % 4 → w % 4 < 3 → w / 4 ≡ n → (w % 4 == 2) ≡ c → w ≡ 4 * n + cond c 2 1
mark_word w n true a b e f = let z : w % 4 ≡ 2 = eqb-true (w % 4) 2 f in omega arith
mark_word w n false a b e f = let z : w % 4 ≢ 2 = eqb-false (w % 4) 2 f in omega arith

pub run_of : (q w n : ℕ) (c : Bool) → w ≡ 4 * n + cond c 2 1 → granted_at q w ≡ record { from = q; len = n; control = c }
run_of q w n c e = λ i. record { from = q; len = long c e i; control = sort c e i }
  where
    long : (c : Bool) → w ≡ 4 * n + cond c 2 1 → w / 4 ≡ n
    long true e = omega arith
    long false e = omega arith

    sort : (c : Bool) → w ≡ 4 * n + cond c 2 1 → (w % 4 == 2) ≡ c
    sort true e = eq-eqb (w % 4) 2 (omega arith)
    sort false e = ne_eqb (w % 4) 2 (λ z. omega arith)

-- the word of a granted run
pub word_of : (w : ℕ → ℕ) (pages q n : ℕ) (c : Bool) (rest : List Granted) → IsLaid w pages → Adds rest (granted_of w 0 pages) (record { from = q; len = n; control = c })
    → (q < pages) × (w q ≡ 4 * n + cond c 2 1)
word_of w pages q n c rest l a =
    let r = listed pages 0 w a.0 a.1 (record { from = q; len = n; control = c }) a.3 in
    let from : q ≡ r.0 = ap (λ (g : Granted). g.from) r.4 in
    let kind = (l.heads r.0 (omega arith) (omega arith)).kind in (
      omega arith,
      ap w from ∙ mark_word (w r.0) n c r.3 kind (sym (ap (λ (g : Granted). g.len) r.4)) (sym (ap (λ (g : Granted). g.control) r.4)),
    )

pub marked_word : (w n : ℕ) (c : Bool) → w ≡ 4 * n + cond c 2 1 → (0 < w % 4) × (w % 4 < 3) × (w / 4 ≡ n)
marked_word w n true e = (omega arith, omega arith, omega arith)
marked_word w n false e = (omega arith, omega arith, omega arith)
