-- The pieces of a line.
use Rattle.std.proofs.Common.{◌≡◌, ◌++◌, ◌∙◌, ℕ, List, [], ◌∷◌, Bor, ap, append_assoc, arith, get_or, length, map, refl, sym}
use Rattle.std.specs.List.{concat}

abbrev Piece : Type 0
Piece = Bor (List ℕ)

-- seven pieces, one after another
abbrev seven_of : List Piece → Piece → List ℕ → List ℕ
seven_of xs d rest = (get_or xs 0 d).now ++ ((get_or xs 1 d).now ++ ((get_or xs 2 d).now ++ ((get_or xs 3 d).now ++ ((get_or xs 4 d).now ++ ((get_or xs 5 d).now ++ ((get_or xs 6 d).now ++ rest))))))

-- a text before the pieces that are left
next : (front rest text end : List ℕ) → rest ≡ text ++ end → front ++ rest ≡ (front ++ text) ++ end
next front rest text end is = ap (λ (t : List ℕ). front ++ t) is ∙ sym (append_assoc front text end)

pub seven_pieces : (xs : List Piece) (d : Piece) (end : List ℕ) → length xs ≡ 7 → seven_of xs d end ≡ concat (map (λ (p : Piece). p.now) xs) ++ end
seven_pieces [] d end e = absurd (omega (arith, e))
seven_pieces (s ∷ []) d end e = absurd (omega (arith, e))
seven_pieces (s ∷ t ∷ []) d end e = absurd (omega (arith, e))
seven_pieces (s ∷ t ∷ u ∷ []) d end e = absurd (omega (arith, e))
seven_pieces (s ∷ t ∷ u ∷ v ∷ []) d end e = absurd (omega (arith, e))
seven_pieces (s ∷ t ∷ u ∷ v ∷ w ∷ []) d end e = absurd (omega (arith, e))
seven_pieces (s ∷ t ∷ u ∷ v ∷ w ∷ x ∷ []) d end e = absurd (omega (arith, e))
seven_pieces (s ∷ t ∷ u ∷ v ∷ w ∷ x ∷ y ∷ []) d end e =
    next s.now _ _ end (next t.now _ _ end (next u.now _ _ end (next v.now _ _ end (next w.now _ _ end (next x.now _ _ end (next y.now _ _ end refl))))))
seven_pieces (s ∷ t ∷ u ∷ v ∷ w ∷ x ∷ y ∷ z ∷ more) d end e = absurd (omega (arith, e))
