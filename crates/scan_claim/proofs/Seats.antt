-- A seat after a draw.
use Rattle.std.proofs.Common.{◌≡◌, ℕ, zero, suc, ◌+◌, ◌<◌, ◌≤◌, List, [], ◌∷◌, ◌++◌, true, false, length, sym, refl, ap, ◌∙◌, subst, arith, length-append, append-nil}
use Rattle.std.proofs.lemmas.Bool.Decides.{nat_tests}
use Rattle.scan_claim.specs.declared.view.Draws.{Draws}
use Rattle.scan_claim.specs.Drawing.{late, flat, below, all_of, seats_of, Drew, is_spent}
use Rattle.scan_claim.proofs.Totals.{late_snoc}

length-below : (n : ℕ) → length (below n) ≡ n
length-below zero = refl
length-below (suc n) = let r = length-below n in omega (arith, length-append (below n) (n ∷ []))

next_order : (l : List ℕ) (r : ℕ) → l ≡ below r → l ++ r ∷ [] ≡ below (length (l ++ r ∷ []))
next_order l r e = let len : length (l ++ r ∷ []) ≡ suc r = omega (arith, length-append l (r ∷ []), ap length e, length-below r) in ap (λ (m : List ℕ). m ++ r ∷ []) e ∙ sym (ap below len)

pub not_spent : (b : ℕ) (l : List ℕ) → false ≡ is_spent b l → late b l ≡ 0
not_spent b l e = grind (arith, nat_tests)

next_spent : (b r : ℕ) (l : List ℕ) → late b l ≡ 0 → b ≤ r → true ≡ is_spent b (l ++ r ∷ [])
next_spent b r l e h = let s = late_snoc b r l in grind (arith, nat_tests)

next_early : (b r : ℕ) (l : List ℕ) → late b l ≡ 0 → r < b → false ≡ is_spent b (l ++ r ∷ [])
next_early b r l e h = let s = late_snoc b r l in grind (arith, nat_tests)

module _ {v w : Draws} {r : ℕ} (d : Drew v r w) where
  pub flat_after : flat w.lists ≡ flat v.lists ++ r ∷ []
  flat_after = ap all_of d.more ∙ append-nil _

  pub one_after : length w.lists ≡ 1
  one_after = ap seats_of d.more

  pub same_blocks : w.blocks ≡ v.blocks
  same_blocks = ap (λ (z : Draws). z.blocks) d.more

  pub same_callers : w.callers ≡ v.callers
  same_callers = ap (λ (z : Draws). z.callers) d.more

  pub same_from : w.from ≡ v.from
  same_from = ap (λ (z : Draws). z.from) d.more

  pub order_after : w.callers ≡ 1 → flat w.lists ≡ below (length (flat w.lists))
  order_after alone = subst (λ (m : List ℕ). m ≡ below (length m)) (sym flat_after) (next_order (flat v.lists) r (d.order (sym same_callers ∙ alone)))

  pub few_after : length (flat w.lists) ≤ w.blocks + w.callers
  few_after = let f = d.few in omega (arith, ap length flat_after, length-append (flat v.lists) (r ∷ []), same_blocks, same_callers)

  pub spent_after : (b : ℕ) → v.blocks ≡ b → false ≡ is_spent v.blocks (flat v.lists) → b ≤ r → true ≡ is_spent b (flat w.lists)
  spent_after b e n h = next_spent b r (flat v.lists) (not_spent b (flat v.lists) (n ∙ ap (λ (c : ℕ). is_spent c (flat v.lists)) e)) h ∙ ap (is_spent b) (sym flat_after)

  pub early_after : (b : ℕ) → v.blocks ≡ b → false ≡ is_spent v.blocks (flat v.lists) → r < b → false ≡ is_spent b (flat w.lists)
  early_after b e n h = next_early b r (flat v.lists) (not_spent b (flat v.lists) (n ∙ ap (λ (c : ℕ). is_spent c (flat v.lists)) e)) h ∙ ap (is_spent b) (sym flat_after)
