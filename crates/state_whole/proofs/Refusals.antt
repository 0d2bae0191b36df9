-- Whether a row of some stretches is refused: what is left from a place on.
use Rattle.std.proofs.Common.{◌≡◌, ◌<◌, ◌+◌, ◌||◌, ◌∙◌, ℕ, suc, Bool, true, false, List, ◌∷◌, ap, arith, drop, get_or, length}
use Rattle.std.proofs.Math.Seq.{drop-cons}
use Rattle.state_head.specs.declared.cover.Stretch.{Stretch}
use Rattle.state_whole.specs.Sums.{has_refused, is_refused}

pub refused_at : (cover : List Stretch) (at : ℕ) (d : Stretch) → at < length cover → has_refused (drop at cover) ≡ (is_refused (get_or cover at d).rows || has_refused (drop (at + 1) cover))
refused_at cover at d h =
    let one : suc at ≡ at + 1 = omega arith in
    ap has_refused (drop-cons cover at d h ∙ ap (λ (n : ℕ). get_or cover at d ∷ drop n cover) one)

pub or_left : (a b : Bool) → a ≡ true → (a || b) ≡ true
or_left a b e = ap (λ (x : Bool). x || b) e

pub or_right : (a b : Bool) → a ≡ false → (a || b) ≡ b
or_right a b e = ap (λ (x : Bool). x || b) e
