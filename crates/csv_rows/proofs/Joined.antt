-- Lists that stand one after the other.
use Rattle.std.proofs.Common.{◌≡◌, ◌≤◌, ◌<◌, ◌+◌, ◌∙◌, ℕ, List, [], ◌∷◌, ◌++◌, ◌-◌, length, take, drop, get_or, refl, sym, ap, arith, append_assoc, append-nil, length-append}
use Rattle.std.proofs.Math.Seq.{drop-append_seam, take-append_seam}
use Rattle.std.proofs.lemmas.List.{drop_more, get_or-drop, get_or-take, take-append-drop, take_more}
use Rattle.csv_rows.specs.Records.{record_at}
use Rattle.csv_rows.specs.InPieces.{IsPieceAt, joined}

pub joined-none : {A : Type 0} → joined {A = A} [] ≡ []
unfolding joined
joined-none = refl

pub joined-one : {A : Type 0} (xs : List A) → joined (xs ∷ []) ≡ xs
unfolding joined
joined-one xs = append-nil xs

pub joined-append : {A : Type 0} (xss yss : List (List A)) → joined (xss ++ yss) ≡ joined xss ++ joined yss
unfolding joined
joined-append [] yss = refl
joined-append (xs ∷ xss) yss = rw (joined-append xss yss, append_assoc) refl

-- one list more
pub joined-more : {A : Type 0} (xss : List (List A)) (at : ℕ) → at < length xss → joined (take (at + 1) xss) ≡ joined (take at xss) ++ get_or xss at []
joined-more xss at lt = ap joined (take_more xss at [] lt) ∙ (joined-append (take at xss) (get_or xss at [] ∷ []) ∙ ap (λ ys. joined (take at xss) ++ ys) (joined-one (get_or xss at [])))

pub length-more : {A : Type 0} (xss : List (List A)) (at : ℕ) → at < length xss → length (joined (take (at + 1) xss)) ≡ length (joined (take at xss)) + length (get_or xss at [])
length-more xss at lt = ap length (joined-more xss at lt) ∙ length-append (joined (take at xss)) (get_or xss at [])

pub joined-split : {A : Type 0} (xss : List (List A)) (at : ℕ) → joined xss ≡ joined (take at xss) ++ joined (drop at xss)
joined-split xss at = ap joined (sym (take-append-drop at xss)) ∙ joined-append (take at xss) (drop at xss)

-- the first lists have no more than all
pub length-front : {A : Type 0} (xss : List (List A)) (at : ℕ) → length (joined (take at xss)) ≤ length (joined xss)
length-front xss at =
    let size = ap length (joined-split xss at) ∙ length-append (joined (take at xss)) (joined (drop at xss)) in
    omega (arith, size)

-- one of the lists stands behind the ones before it
pub joined-piece : {A : Type 0} (xss : List (List A)) (at : ℕ) → at < length xss → take (length (get_or xss at [])) (drop (length (joined (take at xss))) (joined xss)) ≡ get_or xss at []
unfolding joined
joined-piece xss at lt =
    let rest : joined (drop at xss) ≡ get_or xss at [] ++ joined (drop (at + 1) xss) = ap joined (drop_more xss at [] lt) in
    rw (joined-split xss at, drop-append_seam (joined (take at xss)) (joined (drop at xss)), rest) (take-append_seam (get_or xss at []) (joined (drop (at + 1) xss)))

-- so a record of the piece is one of all records
pub piece-record : (records piece : List (List (List ℕ))) (first row : ℕ) → IsPieceAt records first piece → first ≤ row → row < first + length piece → record_at piece (row - first) ≡ record_at records row
piece-record records piece first row is le lt =
    let k = row - first in
    let short : k < length piece = omega (arith, le, lt) in
    let at : first + k ≡ row = omega (arith, le) in
    let front = get_or-take (length piece) (drop first records) k [] short in
    let back = get_or-drop first records k [] in
    ap (λ (xs : List (List (List ℕ))). get_or xs k []) (sym is) ∙ (front ∙ (back ∙ ap (λ (n : ℕ). get_or records n []) at))
