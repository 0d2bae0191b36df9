-- Lists of words that are no command.
use Rattle.std.proofs.Common.{◌≡◌, ℕ, ◌<◌, List, [], ◌∷◌, length, None, refl, arith}
use Rattle.shell_lines.specs.Requests.{request_by}

-- more than five words
pub too-many : (l : List (List ℕ)) → 5 < length l → request_by l ≡ None
too-many [] lt = absurd (omega (arith, lt))
too-many (a ∷ []) lt = absurd (omega (arith, lt))
too-many (a ∷ b ∷ []) lt = absurd (omega (arith, lt))
too-many (a ∷ b ∷ c ∷ []) lt = absurd (omega (arith, lt))
too-many (a ∷ b ∷ c ∷ d ∷ []) lt = absurd (omega (arith, lt))
too-many (a ∷ b ∷ c ∷ d ∷ e ∷ []) lt = absurd (omega (arith, lt))
too-many (a ∷ b ∷ c ∷ d ∷ e ∷ f ∷ l) lt = refl
