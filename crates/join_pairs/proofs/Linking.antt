-- Links of rows that stand once each are all kept.
use Rattle.std.proofs.Common.{◌≡◌, ◌≢◌, ◌<◌, ◌≤◌, ℕ, List, [], ◌∷◌, length, map, set, get_or, refl, ap, sym, subst, ◌∙◌, arith, get_or-set_other, get_or-set_same}
use Rattle.std.proofs.lemmas.List.{length-set}
use Rattle.std.specs.List.{AllByRecursion}
use Rattle.join_pairs.specs.Gathered.{linked}
use Rattle.join_pairs.specs.declared.chains.Link.{Link}
use Rattle.join_pairs.proofs.Apart.{many, many_front, itself, one}

-- no two links are of one row
abbrev pub AreOnce : List Link → Type 0
AreOnce [] = Unit {0}
AreOnce (x ∷ xs) = AllByRecursion (λ (l : Link). l.row ≢ x.row) xs × AreOnce xs

rows_away : (v : ℕ) (xs : List Link) → many v (map (λ (l : Link). l.row) xs) ≡ 0 → AllByRecursion (λ (l : Link). l.row ≢ v) xs
rows_away v [] h = tt
rows_away v (x ∷ xs) h = (
  (λ e. let t : one v x.row ≡ 1 = ap (one v) e ∙ itself v in let no : ⊥ = omega (arith, t, h, many_front v x.row (map (λ (l : Link). l.row) xs)) in no),
  rows_away v xs (omega (arith, h, many_front v x.row (map (λ (l : Link). l.row) xs))),
)

pub once_links : (xs : List Link) → ((v : ℕ) → many v (map (λ (l : Link). l.row) xs) ≤ 1) → AreOnce xs
once_links [] h = tt
once_links (x ∷ xs) h = (
  rows_away x.row xs (omega (arith, h x.row, many_front x.row x.row (map (λ (l : Link). l.row) xs), itself x.row)),
  once_links xs (λ v. omega (arith, h v, many_front v x.row (map (λ (l : Link). l.row) xs))),
)

-- links of other rows leave a row as it is
linked_other : (xs : List Link) (befores : List ℕ) (row : ℕ) → AllByRecursion (λ (l : Link). l.row ≢ row) xs → get_or (linked xs befores) row 0 ≡ get_or befores row 0
linked_other [] befores row h = refl
linked_other (x ∷ xs) befores row h =
    let ne : row ≢ x.row = λ e. h.0 (sym e) in
    linked_other xs (set befores x.row x.before) row h.1 ∙ (rw get_or-set_other refl)

pub length-linked : (xs : List Link) (befores : List ℕ) → length (linked xs befores) ≡ length befores
length-linked [] befores = refl
length-linked (x ∷ xs) befores = length-linked xs (set befores x.row x.before) ∙ length-set befores x.row x.before

-- so each row has the row before it that its link tells
pub linked_all : (xs : List Link) (befores : List ℕ) → AreOnce xs → AllByRecursion (λ (l : Link). l.row < length befores) xs → AllByRecursion (λ (l : Link). get_or (linked xs befores) l.row 0 ≡ l.before) xs
linked_all [] befores o r = tt
linked_all (x ∷ xs) befores o r =
    let next = set befores x.row x.before in
    let room : x.row < length befores = r.0 in (
      linked_other xs next x.row o.0 ∙ (rw get_or-set_same refl),
      linked_all xs next o.1 (weaker xs r.1),
    )
  where
    weaker : (ys : List Link) → AllByRecursion (λ (l : Link). l.row < length befores) ys → AllByRecursion (λ (l : Link). l.row < length (set befores x.row x.before)) ys
    weaker [] h = tt
    weaker (y ∷ ys) h = (subst (λ n. y.row < n) (sym (length-set befores x.row x.before)) h.0, weaker ys h.1)
