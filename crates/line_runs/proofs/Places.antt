-- Lines that keep their places while they get numbers.
use Rattle.std.proofs.Common.{◌≡◌, ◌<◌, ◌+◌, ◌∙◌, ◌∷◌, ◌++◌, [], ℕ, zero, suc, List, ap, arith, drop, get_or, length, map, set, sym, take}
use Rattle.std.proofs.lemmas.List.{map-append, take-append-drop}
use Rattle.std.proofs.lemmas.Simd.{map-map}
use Rattle.line_runs.specs.Entries.{Entry}
use Rattle.line_runs.specs.Order.{entry_at, entry_there, place_of}
use Rattle.line_runs.specs.declared.order.LineRef.{LineRef}

-- one line more has its number, and the lines after it are as they were
pub places_next : (xs ys : List LineRef) (i : ℕ) (d x y : LineRef) → i < length ys → x ≡ get_or ys i d → drop i ys ≡ drop i xs → map place_of (take i ys) ≡ map place_of (take i xs) → place_of y ≡ place_of x
    → (map place_of (take (i + 1) (set ys i y)) ≡ map place_of (take (i + 1) xs)) × (drop (i + 1) (set ys i y) ≡ drop (i + 1) xs)
places_next xs [] i d x y lt is same front place = absurd (omega (arith, lt))
places_next [] (v ∷ ys) zero d x y lt is same front place = absurd (cc)
places_next (u ∷ xs) (v ∷ ys) zero d x y lt is same front place =
    let e : x ≡ u = cc in
    let rest : ys ≡ xs = cc in
    (λ i. (place ∙ ap place_of e) i ∷ [], rest)
places_next [] (v ∷ ys) (suc i) d x y lt is same front place = absurd (cc)
places_next (u ∷ xs) (v ∷ ys) (suc i) d x y lt is same front place =
    let next : suc i + 1 ≡ suc (i + 1) = omega arith in
    let first : place_of v ≡ place_of u = cc in
    let more : map place_of (take i ys) ≡ map place_of (take i xs) = cc in
    let rest = places_next xs ys i d x y (omega (arith, lt)) is same more place in
    rw next (λ j. first j ∷ rest.0 j, rest.1)

-- those that have numbers and the others together
pub places_all : (xs ys : List LineRef) (i : ℕ) → drop i ys ≡ drop i xs → map place_of (take i ys) ≡ map place_of (take i xs) → map place_of ys ≡ map place_of xs
places_all xs ys i same front =
    ap (map place_of) (sym (take-append-drop i ys)) ∙ map-append place_of (take i ys) (drop i ys)
    ∙ (λ j. front j ++ map place_of (same j))
    ∙ sym (map-append place_of (take i xs) (drop i xs)) ∙ ap (map place_of) (take-append-drop i xs)

-- lines at the same places have the same entries
pub entries_same : (runs : List (List Entry)) (xs ys : List LineRef) → map place_of ys ≡ map place_of xs → map (entry_at runs) ys ≡ map (entry_at runs) xs
entries_same runs xs ys same = sym (map-map (entry_there runs) place_of ys) ∙ ap (map (entry_there runs)) same ∙ map-map (entry_there runs) place_of xs
