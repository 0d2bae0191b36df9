-- What is shown of bytes, front by front.
use Rattle.std.proofs.Common.{◌≡◌, ◌<◌, ◌-◌, ◌++◌, ◌∷◌, ◌∙◌, [], zero, suc, ℕ, List, ap, arith, drop, length, refl, sym}
use Rattle.shown_text.specs.Shown.{front_text, shown_after, step}

-- bytes that are passed over are as if they were not there
skips : (k : ℕ) (bytes : List ℕ) → shown_after k bytes ≡ shown_after 0 (drop k bytes)
skips zero [] = refl
skips (suc k) [] = refl
skips zero (byte ∷ bytes) = refl
skips (suc k) (byte ∷ bytes) = skips k bytes

-- the front, and what comes after it
pub front_then : (bytes : List ℕ) (size : ℕ) → size ≡ step bytes → 0 < size → 0 < length bytes → front_text bytes ++ shown_after 0 (drop size bytes) ≡ shown_after 0 bytes
front_then [] size is some more = absurd (omega (arith, more))
front_then (byte ∷ bytes) zero is some more = absurd (omega (arith, some))
front_then (byte ∷ bytes) (suc k) is some more =
    let less : k ≡ step (byte ∷ bytes) - 1 = omega (arith, is) in
    ap (λ (l : List ℕ). front_text (byte ∷ bytes) ++ l) (sym (skips k bytes) ∙ ap (λ n. shown_after n bytes) less)
