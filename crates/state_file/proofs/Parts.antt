-- Lists in two parts, and numbers of four bytes.
use Rattle.std.proofs.Common.{◌≡◌, ◌<◌, ◌^◌, ◌++◌, ◌∙◌, ℕ, List, [], ◌∷◌, length, refl, ap, sym, arith}
use Rattle.std.specs.Int.{from_le_bytes, to_le_bytes, w32}
use Rattle.std.proofs.lemmas.Nat.{from_le_bytes-to_le_bytes_4}

-- lists in two parts, of which the first are as long
pub parts : (xs xs' ys ys' : List ℕ) → length xs ≡ length xs' → xs ++ ys ≡ xs' ++ ys' → (xs ≡ xs') × (ys ≡ ys')
parts [] [] ys ys' long e = (refl, e)
parts [] (x ∷ xs') ys ys' long e = absurd (omega arith)
parts (x ∷ xs) [] ys ys' long e = absurd (omega arith)
parts (x ∷ xs) (x' ∷ xs') ys ys' long e =
    let rest = parts xs xs' ys ys' (omega arith) (tail_of e) in
    (λ i. head_of e i ∷ rest.0 i, rest.1)
  where
    head_of : x ∷ (xs ++ ys) ≡ x' ∷ (xs' ++ ys') → x ≡ x'
    head_of e = cc

    tail_of : x ∷ (xs ++ ys) ≡ x' ∷ (xs' ++ ys') → xs ++ ys ≡ xs' ++ ys'
    tail_of e = cc

pub same_u32 : (m n : ℕ) → m < 2 ^ 32 → n < 2 ^ 32 → to_le_bytes w32 m ≡ to_le_bytes w32 n → m ≡ n
same_u32 m n h k e = sym (from_le_bytes-to_le_bytes_4 m h) ∙ ap (from_le_bytes w32) e ∙ from_le_bytes-to_le_bytes_4 n k
