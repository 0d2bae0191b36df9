-- Three parts of which each goes to the place before its own.
use Rattle.std.proofs.Common.{◌≡◌, zero, suc, true, List, [], ◌∷◌, length, replicate, ap, arith}
use Rattle.std.specs.Prelude.{Option, Some, None}
use Rattle.std.specs.List.{swap}
use Rattle.region_words.specs.Parts.{Owned}
use Rattle.par_exchange.specs.Legal.{Each}
use Rattle.par_exchange.specs.States.{takes_part, who}
use Rattle.uses_book.specs.Trading.{brings, gives}

none-some : (p : Owned) → None ≡ Some p → ⊥
none-some p e = cc

three_each : (base : Owned) (a b c : Option Owned) → Each (brings base) (a ∷ b ∷ c ∷ []) → Each (gives base) (b ∷ c ∷ a ∷ [])
three_each base a b c f zero p e = f 1 p e
three_each base a b c f (suc zero) p e = f 2 p e
three_each base a b c f (suc (suc zero)) p e = f 0 p e
three_each base a b c f (suc (suc (suc k))) p e = absurd (none-some p e)

pub rotated : (base : Owned) (ps : List (Option Owned)) → length ps ≡ 3 → Each (brings base) ps → Each (gives base) (swap (swap ps 0 1) 1 2)
rotated base [] n f = absurd (omega (arith, n))
rotated base (a ∷ []) n f = absurd (omega (arith, n))
rotated base (a ∷ b ∷ []) n f = absurd (omega (arith, n))
rotated base (a ∷ b ∷ c ∷ []) n f = three_each base a b c f
rotated base (a ∷ b ∷ c ∷ d ∷ ps) n f = absurd (omega (arith, n))

-- each place still has one
pub rotated_all : (ps : List (Option Owned)) → length ps ≡ 3 → who ps ≡ replicate 3 true → who (swap (swap ps 0 1) 1 2) ≡ replicate 3 true
rotated_all [] n e = absurd (omega (arith, n))
rotated_all (a ∷ []) n e = absurd (omega (arith, n))
rotated_all (a ∷ b ∷ []) n e = absurd (omega (arith, n))
rotated_all (a ∷ b ∷ c ∷ []) n e = λ i. ap (takes_part 1) e i ∷ ap (takes_part 2) e i ∷ ap (takes_part 0) e i ∷ []
rotated_all (a ∷ b ∷ c ∷ d ∷ ps) n e = absurd (omega (arith, n))
