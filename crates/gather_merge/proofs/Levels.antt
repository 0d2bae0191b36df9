-- How rows compare from a level on.
use Rattle.std.proofs.Common.{◌≡◌, ◌<◌, ◌≤◌, ◌+◌, ◌%◌, ℕ, zero, suc, List, [], ◌∷◌, length, drop, get_or, refl, ap, ap₂, sym, subst, ◌∙◌, arith}
use Rattle.std.specs.Cmp.Lexicographic.{slice_cmp}
use Rattle.std.specs.Ordering.{nat_cmp, ordering_then}
use Rattle.std.specs.declared.cmp.Ordering.{Ordering}
use Rattle.std.specs.declared.cmp.Ordering.TheVariants.{Less, Equal, Greater}
use Rattle.std.proofs.lemmas.List.{drop-drop, drop_all, get_or_past}
use Rattle.par_model.specs.Table.{columns_cmp}
use Rattle.gather_merge.specs.RowWords.{AreBytes, tail_cmp, text_at, word}
use Rattle.gather_merge.specs.Levels.{level_cmp}
use Rattle.gather_merge.proofs.Chunks.{whole_same, word_less, word_same}

then_then : (r s t : Ordering) → ordering_then (ordering_then r s) t ≡ ordering_then r (ordering_then s t)
then_then Less s t = refl
then_then Equal s t = refl
then_then Greater s t = refl

pub first_column : (xs ys : List (List ℕ)) (c : ℕ) → length xs ≡ length ys
    → columns_cmp (drop c xs) (drop c ys) ≡ ordering_then (slice_cmp nat_cmp (get_or xs c []) (get_or ys c [])) (columns_cmp (drop (c + 1) xs) (drop (c + 1) ys))
first_column [] [] zero e = refl
first_column [] [] (suc c) e = let next : suc (c + 1) ≡ suc c + 1 = omega arith in subst (λ n. Equal ≡ columns_cmp (drop n []) (drop n [])) next refl
first_column [] (y ∷ ys) c e = absurd (omega (arith, e))
first_column (x ∷ xs) [] c e = absurd (omega (arith, e))
first_column (x ∷ xs) (y ∷ ys) zero e = refl
first_column (x ∷ xs) (y ∷ ys) (suc c) e =
    let next : suc (c + 1) ≡ suc c + 1 = omega arith in
    subst (λ n. columns_cmp (drop c xs) (drop c ys) ≡ ordering_then (slice_cmp nat_cmp (get_or xs c []) (get_or ys c [])) (columns_cmp (drop n (x ∷ xs)) (drop n (y ∷ ys)))) next
    (first_column xs ys c (omega (arith, e)))

module _ (columns : ℕ → List (List ℕ)) (width : ℕ) (even : (row : ℕ) → length (columns row) ≡ width) where
  pub tail_level : (c a b : ℕ) → tail_cmp columns c a b ≡ level_cmp columns c 0 a b
  tail_level c a b =
      ap (λ r. ordering_then r (nat_cmp a b)) (first_column (columns a) (columns b) c (even a ∙ sym (even b)))
      ∙ then_then (slice_cmp nat_cmp (get_or (columns a) c []) (get_or (columns b) c [])) (columns_cmp (drop (c + 1) (columns a)) (drop (c + 1) (columns b))) (nat_cmp a b)

  pub tail_done : (c a b : ℕ) → width ≤ c → tail_cmp columns c a b ≡ nat_cmp a b
  tail_done c a b h =
      ap₂ (λ xs ys. ordering_then (columns_cmp xs ys) (nat_cmp a b)) (drop_all c (columns a) (omega (arith, h, even a))) (drop_all c (columns b) (omega (arith, h, even b)))

  -- no columns are left
  pub level_done : (c o a b : ℕ) → width ≤ c → level_cmp columns c o a b ≡ nat_cmp a b
  level_done c o a b h =
      let none : (row : ℕ) → text_at columns c o row ≡ [] = λ row. ap (drop o) (get_or_past (columns row) c [] (omega (arith, h, even row))) ∙ drop_all o [] (omega arith) in
      ap₂ (λ s t. ordering_then (slice_cmp nat_cmp s t) (tail_cmp columns (c + 1) a b)) (none a) (none b) ∙ tail_done (c + 1) a b (omega (arith, h))

  pub level_less : (c o a b : ℕ) → AreBytes (text_at columns c o a) → AreBytes (text_at columns c o b) → word (text_at columns c o a) < word (text_at columns c o b) → level_cmp columns c o a b ≡ Less
  level_less c o a b p q l = ap (λ r. ordering_then r (tail_cmp columns (c + 1) a b)) (word_less (text_at columns c o a) (text_at columns c o b) p q l)

  -- words that are the same leave the next seven bytes to decide
  pub level_next : (c o a b : ℕ) → AreBytes (text_at columns c o a) → AreBytes (text_at columns c o b) → word (text_at columns c o a) ≡ word (text_at columns c o b)
      → level_cmp columns c o a b ≡ level_cmp columns c (o + 7) a b
  level_next c o a b p q e =
      ap (λ r. ordering_then r (tail_cmp columns (c + 1) a b))
      (word_same (text_at columns c o a) (text_at columns c o b) p q e ∙ ap₂ (slice_cmp nat_cmp) (drop-drop 7 o (get_or (columns a) c [])) (drop-drop 7 o (get_or (columns b) c [])))

  -- and where they are whole, the next column
  pub level_whole : (c o a b : ℕ) → AreBytes (text_at columns c o a) → AreBytes (text_at columns c o b) → word (text_at columns c o a) ≡ word (text_at columns c o b)
      → word (text_at columns c o a) % 256 < 8 → level_cmp columns c o a b ≡ level_cmp columns (c + 1) 0 a b
  level_whole c o a b p q e w =
      ap (λ r. ordering_then r (tail_cmp columns (c + 1) a b)) (whole_same (text_at columns c o a) (text_at columns c o b) p q e w) ∙ tail_level (c + 1) a b
