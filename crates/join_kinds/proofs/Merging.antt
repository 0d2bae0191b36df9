-- A left row's pairs are added one after the other.
use Rattle.std.proofs.Common.{◌≡◌, ◌≢◌, ◌<◌, ◌≤◌, ◌+◌, ◌++◌, ℕ, cond, List, [], ◌∷◌, drop, get_or, length, map, ap, sym, ◌∙◌, arith, append_assoc, append-nil, length-append}
use Rattle.std.specs.List.{take_while}
use Rattle.std.proofs.lemmas.Bool.{eq-eqb, ne_eqb}
use Rattle.std.proofs.lemmas.List.{drop_all, map-append}
use Rattle.std.proofs.lemmas.List.Sums.{take_while-cons}
use Rattle.join_pairs.specs.declared.pairs.Pair.{Pair}
use Rattle.join_pairs.proofs.Flats.{drop_at}
use Rattle.join_kinds.specs.declared.outer.JoinedRow.{JoinedRow}
use Rattle.join_kinds.specs.declared.outer.JoinedRow.TheVariants.{Both, LeftOnly}
use Rattle.join_kinds.specs.Outer.{has_left, with_pairs}

module _ (pairs : List Pair) (from row : ℕ) where
  -- the pairs of the row that are left at a place
  abbrev pub left_at : ℕ → List Pair
  left_at at = take_while (has_left row) (drop at pairs)

  -- the pairs of the row up to a place were added, and the others are left
  pub record HasAdded (before : List JoinedRow) (at : ℕ) (after : List JoinedRow) : Type 0 where
    pub done : List Pair
    pub parts : left_at from ≡ done ++ left_at at
    pub place : at ≡ from + length done
    pub added : after ≡ before ++ map Both done

  -- one more pair of the row
  pub one_more : (before : List JoinedRow) (at : ℕ) (p : Pair) (after : List JoinedRow) → at < length pairs → p ≡ get_or pairs at p → p.left ≡ row → HasAdded before at after → HasAdded before (at + 1) (after ++ Both p ∷ [])
  one_more before at p after low is own h = record {
    done = h.done ++ p ∷ [];
    parts = h.parts ∙ ap (λ (l : List Pair). h.done ++ l) (ap (take_while (has_left row)) (drop_at pairs at p low is) ∙ take_while-cons (has_left row) p (drop (at + 1) pairs) ∙ ap (λ b. cond {A = List Pair} b (p ∷ left_at (at + 1)) []) (eq-eqb p.left row own))
        ∙ sym (append_assoc h.done (p ∷ []) (left_at (at + 1)));
    place = omega (arith, h.place, length-append h.done (p ∷ []));
    added = ap (λ (l : List JoinedRow). l ++ Both p ∷ []) h.added ∙ append_assoc before (map Both h.done) (Both p ∷ []) ∙ ap (λ (l : List JoinedRow). before ++ l) (sym (map-append Both h.done (p ∷ [])));
  }

  -- no pair of the row is left at the end, or at a pair of another row
  pub at_end : (at : ℕ) → length pairs ≤ at → left_at at ≡ []
  at_end at h = ap (take_while (has_left row)) (drop_all at pairs h)

  pub at_other : (at : ℕ) (p : Pair) → at < length pairs → p ≡ get_or pairs at p → p.left ≢ row → left_at at ≡ []
  at_other at p low is other =
      ap (take_while (has_left row)) (drop_at pairs at p low is) ∙ take_while-cons (has_left row) p (drop (at + 1) pairs) ∙ ap (λ b. cond {A = List Pair} b (p ∷ left_at (at + 1)) []) (ne_eqb p.left row other)

  module _ (before : List JoinedRow) (at : ℕ) (after : List JoinedRow) (h : HasAdded before at after) (none : left_at at ≡ []) where
    all_done : left_at from ≡ h.done
    all_done = h.parts ∙ ap (λ (l : List Pair). h.done ++ l) none ∙ append-nil h.done

    pub place_after : at ≡ from + length (left_at from)
    place_after = h.place ∙ ap (λ (l : List Pair). from + length l) (sym all_done)

    -- a row that has no pair
    pub added_alone : at ≡ from → after ++ LeftOnly row ∷ [] ≡ before ++ with_pairs row (left_at from)
    added_alone e = by h.done h.added (omega (arith, e, h.place)) ∙ ap (λ (l : List Pair). before ++ with_pairs row l) (sym all_done)
      where
        by : (done : List Pair) → after ≡ before ++ map Both done → length done ≡ 0 → after ++ LeftOnly row ∷ [] ≡ before ++ with_pairs row done
        by [] is e = ap (λ (l : List JoinedRow). l ++ LeftOnly row ∷ []) (is ∙ append-nil before)
        by (p ∷ ps) is e = absurd (omega (arith, e))

    -- a row that has some
    pub added_pairs : at ≢ from → after ≡ before ++ with_pairs row (left_at from)
    added_pairs n = by h.done h.added h.place ∙ ap (λ (l : List Pair). before ++ with_pairs row l) (sym all_done)
      where
        by : (done : List Pair) → after ≡ before ++ map Both done → at ≡ from + length done → after ≡ before ++ with_pairs row done
        by [] is e = absurd (n (omega (arith, e)))
        by (p ∷ ps) is e = is
