-- An array whose front is filled from a list.
use Rattle.std.proofs.Common.{◌≡◌, ◌<◌, ◌+◌, ◌-◌, ◌∷◌, ◌∙◌, ℕ, List, [], drop, get_or, length, map, set, take, refl, sym, ap, arith}
use Rattle.std.proofs.lemmas.List.{drop-drop, drop-replicate, drop-set-lt, map-append, take_more, take_more_set}
use Rattle.std.specs.Prelude.{replicate}

-- one more place
pub filled-more : {A B : Type 0} (f : B → A) (z x : A) (y : B) (xs : List A) (ys : List B) (i n : ℕ) → i < length xs → i < length ys → y ≡ get_or ys i y → x ≡ f y
    → take i xs ≡ map f (take i ys) → drop i xs ≡ replicate (n - i) z
    → (take (i + 1) (set xs i x) ≡ map f (take (i + 1) ys)) × (drop (i + 1) (set xs i x) ≡ replicate (n - (i + 1)) z)
filled-more f z x y xs ys i n lx ly is e front rest =
    let t = take_more_set xs i x lx in
    let m = take_more ys i y ly in
    let a = map-append f (take i ys) (y ∷ []) in
    let past : i < i + 1 = omega arith in
    let left : (n - i) - 1 ≡ n - (i + 1) = omega arith in
    let d : drop (i + 1) xs ≡ replicate (n - (i + 1)) z =
    sym (drop-drop 1 i xs) ∙ ap (drop 1) rest ∙ drop-replicate 1 (n - i) z ∙ ap (λ m. replicate m z) left in
    (rw (t, m, ← is, a, front, e) refl, rw (drop-set-lt (i + 1) xs i x past) d)
