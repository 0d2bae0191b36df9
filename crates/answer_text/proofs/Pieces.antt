-- The front of some pieces that were written, up to the one where a write failed.
use Rattle.std.proofs.Common.{◌≡◌, ◌+◌, ◌<◌, ◌++◌, ◌∙◌, ℕ, zero, suc, List, [], ◌∷◌, length, refl, sym, ap, take, drop, map, get_or, arith, append_assoc, append-nil, add-one}
use Rattle.std.proofs.Math.Seq.{take-append-add}
use Rattle.std.specs.List.{concat}

-- a front of a piece is a front of it with what follows
front : (n : ℕ) (piece rest : List ℕ) → (m : ℕ) × (take m (piece ++ rest) ≡ take n piece)
front zero piece rest = (0, refl)
front (suc n) [] rest = (0, refl)
front (suc n) (x ∷ piece) rest = let shorter = front n piece rest in (suc shorter.0, ap (λ l. x ∷ l) shorter.1)

-- the pieces up to a place, that piece, and the others
pieces_at : {X : Type 0} (text : X → List ℕ) (pieces : List X) (i : ℕ) (d : X) → i < length pieces
    → concat (map text pieces) ≡ concat (map text (take i pieces)) ++ (text (get_or pieces i d) ++ concat (map text (drop (suc i) pieces)))
pieces_at text [] i d within = absurd (omega arith)
pieces_at text (piece ∷ pieces) zero d within = refl
pieces_at text (piece ∷ pieces) (suc i) d within =
    ap (λ l. text piece ++ l) (pieces_at text pieces i d (omega arith)) ∙ sym (append_assoc (text piece) (concat (map text (take i pieces))) (text (get_or pieces i d) ++ concat (map text (drop (suc i) pieces))))

-- the pieces before a place and a front of that piece are a front of all
pub pieces_front : {X : Type 0} (text : X → List ℕ) (pieces : List X) (i n : ℕ) (d : X) → i < length pieces
    → (m : ℕ) × (concat (map text (take i pieces)) ++ take n (text (get_or pieces i d)) ≡ take m (concat (map text pieces)))
pieces_front text pieces i n d within =
    let before = concat (map text (take i pieces)) in
    let piece = text (get_or pieces i d) in
    let rest = concat (map text (drop (suc i) pieces)) in
    let part = front n piece rest in
    (length before + part.0, sym (ap (take (length before + part.0)) (pieces_at text pieces i d within) ∙ take-append-add before (piece ++ rest) part.0 ∙ ap (λ l. before ++ l) part.1))

-- one piece more
one_more : {X : Type 0} (text : X → List ℕ) (pieces : List X) (i : ℕ) (d : X) → i < length pieces
    → concat (map text (take (suc i) pieces)) ≡ concat (map text (take i pieces)) ++ text (get_or pieces i d)
one_more text [] i d within = absurd (omega arith)
one_more text (piece ∷ pieces) zero d within = append-nil (text piece)
one_more text (piece ∷ pieces) (suc i) d within =
    ap (λ l. text piece ++ l) (one_more text pieces i d (omega arith)) ∙ sym (append_assoc (text piece) (concat (map text (take i pieces))) (text (get_or pieces i d)))

pub pieces_more : {X : Type 0} (text : X → List ℕ) (pieces : List X) (i : ℕ) (d : X) → i < length pieces
    → concat (map text (take (i + 1) pieces)) ≡ concat (map text (take i pieces)) ++ text (get_or pieces i d)
pieces_more text pieces i d within = rw (add-one i) (one_more text pieces i d within)
