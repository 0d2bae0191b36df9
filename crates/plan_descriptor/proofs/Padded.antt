-- An array whose front is a list, and whose other places hold one element.
use Rattle.std.proofs.Common.{◌≡◌, ◌≤◌, ◌+◌, ◌-◌, ◌∙◌, ℕ, List, drop, get_or, length, take, replicate, inl, inr, sym, ap, arith}
use Rattle.std.proofs.lemmas.Bool.{cases_lt}
use Rattle.std.proofs.lemmas.List.{get_or-drop, get_or-replicate, get_or-take, get_or_past, length-replicate, length-take}

same_fill : {X : Type 0} (m i : ℕ) (z : X) → get_or (replicate m z) i z ≡ z
same_fill m i z = elim (cases_lt i m) [
  | inl h ↦ get_or-replicate m i z z h
  | inr h ↦ get_or_past (replicate m z) i z (omega (arith, length-replicate m z))
]

-- the list has at each place what the array has
pub padded : {X : Type 0} (xs front : List X) (n m i : ℕ) (z : X) → front ≡ take n xs → drop n xs ≡ replicate m z → get_or front i z ≡ get_or xs i z
padded xs front n m i z is rest = elim (cases_lt i n) [
  | inl h ↦ ap (λ l. get_or l i z) is ∙ get_or-take n xs i z h
  | inr h ↦
      let same : n + (i - n) ≡ i = omega arith in
      let short : length front ≤ i = rw is (omega (arith, length-take n xs)) in
      get_or_past front i z short ∙ sym (rw same at (sym (get_or-drop n xs (i - n) z) ∙ ap (λ l. get_or l (i - n) z) rest ∙ same_fill m (i - n) z))
]
