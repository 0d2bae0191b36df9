-- The left outer join, as far as the left rows were gone through.
use Rattle.std.proofs.Common.{◌≡◌, ◌≢◌, ◌<◌, ◌+◌, ◌-◌, ◌++◌, ℕ, zero, suc, cond, filter, List, [], ◌∷◌, drop, drop-drop, length, map, refl, ap, sym, ◌∙◌, arith, append-nil}
use Rattle.std.specs.List.{flat_map, range_with_len, take_while}
use Rattle.std.proofs.Math.Seq.{drop-append_seam}
use Rattle.std.proofs.lemmas.Bool.{eq-eqb, ne_eqb}
use Rattle.std.proofs.lemmas.List.Concat.{flat_map-append}
use Rattle.std.proofs.lemmas.List.Sums.{take_while-cons}
use Rattle.row_blocks.specs.Blocks.{Table, numbers_of}
use Rattle.join_pairs.specs.Join.{is_pair, pairs_of}
use Rattle.join_pairs.specs.declared.pairs.Pair.{Pair}
use Rattle.join_kinds.specs.declared.outer.JoinedRow.{JoinedRow}
use Rattle.join_kinds.specs.Kinds.{left_outer_join_of, pairs_of_left}
use Rattle.join_kinds.specs.Outer.{has_left, with_pairs}
use Rattle.join_kinds.specs.Partners.{numbers_to}
use Rattle.join_kinds.proofs.Numbers.{numbers_are, numbers_more}

abbrev pair : ℕ → ℕ → Pair
pair l r = record { left = l; right = r }

-- pairs of the row in front are taken as long as they come
takes_own : (row : ℕ) (rights : List ℕ) (rest : List Pair) → take_while (has_left row) rest ≡ [] → take_while (has_left row) (map (pair row) rights ++ rest) ≡ map (pair row) rights
takes_own row [] rest h = h
takes_own row (r ∷ rs) rest h =
    take_while-cons (has_left row) (pair row r) (map (pair row) rs ++ rest)
    ∙ ap (λ b. cond {A = List Pair} b (pair row r ∷ take_while (has_left row) (map (pair row) rs ++ rest)) []) (eq-eqb row row refl) ∙ ap (λ (l : List Pair). pair row r ∷ l) (takes_own row rs rest h)

module _ (left right : Table) (left_column right_column : ℕ) where
  abbrev own : ℕ → List Pair
  own = pairs_of_left left right left_column right_column

  abbrev shown : ℕ → List JoinedRow
  shown l = with_pairs l (own l)

  -- later rows have no pairs of an earlier one
  takes_none : (row a n : ℕ) → row < a → take_while (has_left row) (flat_map own (range_with_len a n)) ≡ []
  takes_none row a zero h = refl
  takes_none row a (suc n) h = by (filter (is_pair left right left_column right_column a) (numbers_of right)) (takes_none row (a + 1) n (omega (arith, h)))
    where
      by : (rights : List ℕ) → take_while (has_left row) (flat_map own (range_with_len (a + 1) n)) ≡ [] → take_while (has_left row) (map (pair a) rights ++ flat_map own (range_with_len (a + 1) n)) ≡ []
      by [] e = e
      by (r ∷ rs) e =
          let rest = map (pair a) rs ++ flat_map own (range_with_len (a + 1) n) in
          let other : a ≢ row = λ s. absurd (omega (arith, s, h)) in
          take_while-cons (has_left row) (pair a r) rest ∙ ap (λ b. cond {A = List Pair} b (pair a r ∷ take_while (has_left row) rest) []) (ne_eqb a row other)

  -- the rows up to a number are in the result, and the pairs from a place on are those of the rows after it
  pub record IsMerged (pairs : List Pair) (rows row at : ℕ) (joined : List JoinedRow) : Type 0 where
    pub rest : drop at pairs ≡ flat_map own (range_with_len (row + 1) (rows - row))
    pub added : joined ≡ flat_map shown (numbers_to row)

  module _ (pairs : List Pair) (rows : ℕ) (n : rows + 1 ≡ length left) where
    pub merged_start : pairs ≡ pairs_of left right left_column right_column → IsMerged pairs rows 0 0 []
    merged_start e = record {
      rest = let all : rows ≡ rows - 0 = omega arith in e ∙ ap (flat_map own) (numbers_are left rows n) ∙ ap (λ (k : ℕ). flat_map own (range_with_len 1 k)) all;
      added = refl;
    }

    pub merged_next : (row at end : ℕ) (joined joined' : List JoinedRow) → row < rows → IsMerged pairs rows row at joined → end ≡ at + length (take_while (has_left (row + 1)) (drop at pairs))
        → joined' ≡ joined ++ with_pairs (row + 1) (take_while (has_left (row + 1)) (drop at pairs)) → IsMerged pairs rows (row + 1) end joined'
    merged_next row at end joined joined' low h place more =
        let later = flat_map own (range_with_len (row + 1 + 1) (rows - (row + 1))) in
        let count : rows - row ≡ suc (rows - (row + 1)) = omega (arith, low) in
        let parts : drop at pairs ≡ own (row + 1) ++ later = h.rest ∙ ap (λ (k : ℕ). flat_map own (range_with_len (row + 1) k)) count in
        let taken : take_while (has_left (row + 1)) (drop at pairs) ≡ own (row + 1) =
        ap (take_while (has_left (row + 1))) parts
        ∙ takes_own (row + 1) (filter (is_pair left right left_column right_column (row + 1)) (numbers_of right)) later (takes_none (row + 1) (row + 1 + 1) (rows - (row + 1)) (omega arith)) in
        let ends : end ≡ at + length (own (row + 1)) = place ∙ ap (λ (l : List Pair). at + length l) taken in
        let all : flat_map shown (numbers_to (row + 1)) ≡ flat_map shown (numbers_to row) ++ shown (row + 1) =
        ap (flat_map shown) (numbers_more row) ∙ flat_map-append shown (numbers_to row) ((row + 1) ∷ []) ∙ ap (λ (l : List JoinedRow). flat_map shown (numbers_to row) ++ l) (append-nil (shown (row + 1))) in
        record {
          rest = ap (λ (k : ℕ). drop k pairs) ends ∙ sym (drop-drop (length (own (row + 1))) at pairs) ∙ ap (drop (length (own (row + 1)))) parts ∙ drop-append_seam (own (row + 1)) later;
          added = more ∙ ap (λ (l : List JoinedRow). l ++ with_pairs (row + 1) (take_while (has_left (row + 1)) (drop at pairs))) h.added
              ∙ ap (λ (l : List Pair). flat_map shown (numbers_to row) ++ with_pairs (row + 1) l) taken ∙ sym all;
        }

    pub merged_end : (row at : ℕ) (joined : List JoinedRow) → row ≡ rows → IsMerged pairs rows row at joined → joined ≡ left_outer_join_of left right left_column right_column
    merged_end row at joined e h = h.added ∙ ap (λ (k : ℕ). flat_map shown (numbers_to k)) e ∙ ap (flat_map shown) (sym (numbers_are left rows n))
