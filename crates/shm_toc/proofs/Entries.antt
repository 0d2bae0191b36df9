-- The entries that stand in words, and the place beside a key.
use Rattle.std.proofs.Common.{◌≡◌, ◌≢◌, ℕ, zero, suc, ◌+◌, ◌*◌, ◌<◌, ◌≤◌, ◌==◌, Bool, true, false, cond, List, [], ◌∷◌, ◌++◌, length, Option, Some, None, unwrap_or, refl, sym, ap, ◌∙◌, eq-eqb, ne_eqb, arith}
use mathlib.Core.Logic.{dite}
use native.Mathlib.Decide.{ℕ_discrete}
use Rattle.word_map.specs.WordMap.{WordMap, at}
use Rattle.shm_toc.specs.Table.{Entry, place_of, HasDifferentKeys, word_of, entries_from}

pub length-entries : (m : WordMap) (p n : ℕ) → length (entries_from m p n) ≡ n
length-entries m p zero = refl
length-entries m p (suc n) = ap suc (length-entries m (suc (suc p)) n)

pub word_same : (m v : WordMap) (k : ℕ) → at v k ≡ at m k → word_of v k ≡ word_of m k
word_same m v k e = ap (λ (o : Option ℕ). unwrap_or o 0) e

pub entries_same : (m v : WordMap) (p n : ℕ) → ((k : ℕ) → p ≤ k → k < p + 2 * n → at v k ≡ at m k) → entries_from v p n ≡ entries_from m p n
entries_same m v p zero same = refl
entries_same m v p (suc n) same =
    let key = word_same m v p (same p (omega arith) (omega arith)) in
    let place = word_same m v (suc p) (same (suc p) (omega arith) (omega arith)) in
    let rest = entries_same m v (suc (suc p)) n (λ k x y. same k (omega arith) (omega arith)) in
    λ i. record { key = key i; place = place i } ∷ rest i

-- one entry more is one behind the others
pub entries_more : (m : WordMap) (p n q : ℕ) → q ≡ p + 2 * n → entries_from m p (suc n) ≡ entries_from m p n ++ (record { key = word_of m q; place = word_of m (suc q) } ∷ [])
entries_more m p zero q e = ap (λ (z : ℕ). record { key = word_of m z; place = word_of m (suc z) } ∷ []) (let s : p ≡ q = omega arith in s)
entries_more m p (suc n) q e = ap (λ (es : List Entry). record { key = word_of m p; place = word_of m (suc p) } ∷ es) (entries_more m (suc (suc p)) n q (omega arith))

here_is : (e : Entry) (es : List Entry) (key : ℕ) → e.key ≡ key → place_of (e ∷ es) key ≡ Some e.place
here_is e es key s = ap (λ b. cond b (Some e.place) (place_of es key)) (eq-eqb e.key key s)

further_is : (e : Entry) (es : List Entry) (key : ℕ) → e.key ≢ key → place_of (e ∷ es) key ≡ place_of es key
further_is e es key n = ap (λ b. cond b (Some e.place) (place_of es key)) (ne_eqb e.key key n)

-- none of the first n keys from word p on is this one
abbrev pub NotBelow : WordMap → ℕ → ℕ → ℕ → Type 0
NotBelow m p n key = (k j : ℕ) → k ≡ p + 2 * j → j < n → word_of m k ≢ key

later : (m : WordMap) (p n key : ℕ) → NotBelow m p (suc n) key → NotBelow m (suc (suc p)) n key
later m p n key none k j e low = none k (suc j) (omega arith) (omega arith)

first : (m : WordMap) (p n key : ℕ) → NotBelow m p (suc n) key → word_of m p ≢ key
first m p n key none = none p 0 (omega arith) (omega arith)

pub none_more : (m : WordMap) (p n q key : ℕ) → NotBelow m p n key → q ≡ p + 2 * n → word_of m q ≢ key → NotBelow m p (n + 1) key
none_more m p n q key none e here k j s low = dite (ℕ_discrete j n)
    (λ (t : j ≡ n). λ is. here (ap (word_of m) (let z : q ≡ k = omega arith in z) ∙ is))
    (λ (t : j ≢ n). none k j s (omega arith))

pub place_none : (m : WordMap) (p n key : ℕ) → NotBelow m p n key → place_of (entries_from m p n) key ≡ None
place_none m p zero key none = refl
place_none m p (suc n) key none = further_is _ _ key (first m p n key none) ∙ place_none m (suc (suc p)) n key (later m p n key none)

pub place_found : (m : WordMap) (p n i q key : ℕ) → i < n → q ≡ p + 2 * i → NotBelow m p i key → word_of m q ≡ key → place_of (entries_from m p n) key ≡ Some (word_of m (suc q))
place_found m p zero i q key low e none is = absurd (omega arith)
place_found m p (suc n) zero q key low e none is =
    let s : q ≡ p = omega arith in
    here_is _ _ key (ap (word_of m) (sym s) ∙ is) ∙ ap (λ (z : ℕ). Some (word_of m (suc z))) (sym s)
place_found m p (suc n) (suc i) q key low e none is =
    further_is _ _ key (first m p i key none) ∙ place_found m (suc (suc p)) n i q key (omega arith) (omega arith) (later m p i key none) is

none_cond : (b : Bool) (x : ℕ) (o : Option ℕ) → cond b (Some x) o ≡ None → (b ≡ false) × (o ≡ None)
none_cond true x o e = cc
none_cond false x o e = (refl, e)

not_here : (e : Entry) (es : List Entry) (key : ℕ) → place_of (e ∷ es) key ≡ None → (e.key ≢ key) × (place_of es key ≡ None)
not_here e es key h =
    let p = none_cond (e.key == key) e.place (place_of es key) h in (
      λ s. let t = eq-eqb e.key key s in let u : true ≡ false = sym t ∙ p.0 in cc,
      p.1,
    )

-- a key that no entry has, behind one more with another key
pub place_behind : (es : List Entry) (last : Entry) (key : ℕ) → place_of es key ≡ None → last.key ≢ key → place_of (es ++ (last ∷ [])) key ≡ None
place_behind [] last key h n = further_is last [] key n
place_behind (e ∷ es) last key h n = let p = not_here e es key h in further_is e _ key p.0 ∙ place_behind es last key p.1 n

-- a new key behind the others
pub differ_more : (es : List Entry) (last : Entry) → HasDifferentKeys es → place_of es last.key ≡ None → HasDifferentKeys (es ++ (last ∷ []))
differ_more [] last d h = (refl, tt)
differ_more (e ∷ es) last d h =
    let p = not_here e es last.key h in
    (place_behind es last e.key d.0 (λ s. p.0 (sym s)), differ_more es last d.1 p.1)
