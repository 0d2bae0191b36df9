-- The texts of the first few of some things, one after the other.
use Rattle.std.proofs.Common.{◌≡◌, ◌+◌, ◌<◌, ◌++◌, ◌∙◌, ℕ, zero, suc, List, [], ◌∷◌, length, sym, ap, take, map, get_or, append_assoc, append-nil, add-one, arith}
use Rattle.std.specs.List.{concat}

one_more : {X : Type 0} (text : X → List ℕ) (pieces : List X) (i : ℕ) (d : X) → i < length pieces
    → concat (map text (take (suc i) pieces)) ≡ concat (map text (take i pieces)) ++ text (get_or pieces i d)
one_more text [] i d within = absurd (omega arith)
one_more text (piece ∷ pieces) zero d within = append-nil (text piece)
one_more text (piece ∷ pieces) (suc i) d within =
    ap (λ l. text piece ++ l) (one_more text pieces i d (omega arith)) ∙ sym (append_assoc (text piece) (concat (map text (take i pieces))) (text (get_or pieces i d)))

pub pieces_more : {X : Type 0} (text : X → List ℕ) (pieces : List X) (i : ℕ) (d : X) → i < length pieces
    → concat (map text (take (i + 1) pieces)) ≡ concat (map text (take i pieces)) ++ text (get_or pieces i d)
pieces_more text pieces i d within = rw (add-one i) (one_more text pieces i d within)
