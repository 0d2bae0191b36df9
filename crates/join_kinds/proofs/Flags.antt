-- The flags after one more pair.
use Rattle.std.proofs.Common.{◌≡◌, ◌≢◌, ◌<◌, ◌≤◌, ◌+◌, ◌-◌, ◌++◌, ◌||◌, ◌==◌, ◌⊎◌, inl, inr, ℕ, Bool, true, false, List, [], ◌∷◌, eqb, get_or, length, set, take, refl, ap, sym, ◌∙◌, arith}
use Rattle.std.proofs.lemmas.Bool.{eq-eqb, ne_eqb}
use Rattle.std.proofs.lemmas.Bool.Decides.{eqb_tells}
use Rattle.std.proofs.lemmas.Grind.{get_or-set_at}
use Rattle.std.proofs.lemmas.List.{get_or-set_other, length-set, take_more}
use Rattle.std.proofs.lemmas.List.Folds.{list_any-append}
use Rattle.join_pairs.specs.declared.pairs.Pair.{Pair}
use Rattle.join_kinds.specs.declared.partners.Side.{Side}
use Rattle.join_kinds.specs.Partners.{HasFlags, has_pair, row_on}

or_false : (b : Bool) → (b || false) ≡ b
or_false true = refl
or_false false = refl

or_true : (b : Bool) → (b || true) ≡ true
or_true true = refl
or_true false = refl

module _ (side : Side) (pairs : List Pair) (rows i row : ℕ) (p : Pair) (flags : List Bool) (low : i < length pairs) (at_i : p ≡ get_or pairs i p) (is : row ≡ row_on side p) (h : HasFlags side (take i pairs) rows flags) where
  one_more : (r : ℕ) → has_pair side (take (i + 1) pairs) r ≡ (has_pair side (take i pairs) r || (row_on side p == r))
  one_more r =
      ap (λ (l : List Pair). has_pair side l r) (take_more pairs i p low ∙ ap (λ (q : Pair). take i pairs ++ q ∷ []) (sym at_i)) ∙ list_any-append (λ (q : Pair). row_on side q == r) (take i pairs) (p ∷ [])
      ∙ ap (λ b. has_pair side (take i pairs) r || b) (or_false (row_on side p == r))

  same_row : (r : ℕ) → row ≡ r → true ≡ has_pair side (take (i + 1) pairs) r
  same_row r e = sym (one_more r ∙ ap (λ b. has_pair side (take i pairs) r || b) (eq-eqb (row_on side p) r (sym is ∙ e)) ∙ or_true (has_pair side (take i pairs) r))

  other_row : (r : ℕ) → row ≢ r → has_pair side (take i pairs) r ≡ has_pair side (take (i + 1) pairs) r
  other_row r n = sym (one_more r ∙ ap (λ b. has_pair side (take i pairs) r || b) (ne_eqb (row_on side p) r (λ e. n (is ∙ e))) ∙ or_false (has_pair side (take i pairs) r))

  -- the row of the pair has its flag set
  pub flag_set : row ≢ 0 → row ≤ rows → HasFlags side (take (i + 1) pairs) rows (set flags (row - 1) true)
  flag_set some few = record {
    count = length-set flags (row - 1) true ∙ h.count;
    each = λ at l. by at l (eqb_tells at (row - 1));
  }
    where
      by : (at : ℕ) → at < rows → ((eqb at (row - 1) ≡ true) × (at ≡ row - 1)) ⊎ ((eqb at (row - 1) ≡ false) × (at ≢ row - 1)) → get_or (set flags (row - 1) true) at false ≡ has_pair side (take (i + 1) pairs) (at + 1)
      by at l (inl s) = get_or-set_at flags (row - 1) at true false s.1 (omega (arith, h.count, few, some)) ∙ same_row (at + 1) (omega (arith, s.1, some))
      by at l (inr s) = get_or-set_other flags (row - 1) at true false s.1 ∙ h.each at l ∙ other_row (at + 1) (λ e. s.1 (omega (arith, e)))

  -- a row that the side doesn't have changes nothing
  pub flag_skip : (row ≢ 0 → row ≤ rows → ⊥) → HasFlags side (take (i + 1) pairs) rows flags
  flag_skip none = record { count = h.count; each = λ at l. h.each at l ∙ other_row (at + 1) (λ e. none (omega (arith, e)) (omega (arith, e, l))) }
