-- A chain that is followed, on its way.
use Rattle.std.proofs.Common.{◌≡◌, ◌≢◌, ◌<◌, ◌≤◌, ◌+◌, ◌++◌, ℕ, suc, List, [], ◌∷◌, length, refl, ap, sym, ◌∙◌, arith, append_assoc, append-nil, length-append}
use Rattle.join_pairs.specs.Join.{most_pairs}
use Rattle.join_pairs.specs.Chains.{IsChain}
use Rattle.join_pairs.specs.Pairing.{pairs_with}
use Rattle.join_pairs.specs.declared.pairs.Pair.{Pair}

-- of a chain some rows were followed and their pairs were added, and the others follow from `left` on
pub record IsPart (before : ℕ → ℕ) (right : ℕ) (old : List Pair) (left : ℕ) (pairs : List Pair) (chain : List ℕ) : Type 0 where
  pub done : List ℕ
  pub rest : List ℕ
  pub cut : chain ≡ done ++ rest
  pub follows : IsChain before left rest
  pub added : pairs ≡ old ++ pairs_with right done

-- so it is with each chain from the last row on
abbrev pub Follows : (ℕ → ℕ) → ℕ → ℕ → List Pair → ℕ → List Pair → Type 0
Follows before last right old left pairs = (chain : List ℕ) → IsChain before last chain → IsPart before right old left pairs chain

module _ (before : ℕ → ℕ) (right : ℕ) (old : List Pair) where
  with_more : (xs ys : List ℕ) → pairs_with right (xs ++ ys) ≡ pairs_with right xs ++ pairs_with right ys
  with_more [] ys = refl
  with_more (x ∷ xs) ys = ap (λ (l : List Pair). record { left = x; right = right } ∷ l) (with_more xs ys)

  pub follow_start : (last : ℕ) → Follows before last right old last old
  follow_start last chain c = record { done = []; rest = chain; cut = refl; follows = c; added = sym (append-nil old) }

  next_part : (left : ℕ) (pairs : List Pair) (chain done rest : List ℕ) → left ≢ 0 → chain ≡ done ++ rest → IsChain before left rest → pairs ≡ old ++ pairs_with right done
      → IsPart before right old (before left) (pairs ++ record { left = left; right = right } ∷ []) chain
  next_part left pairs chain done [] some cut c added = absurd (some c)
  next_part left pairs chain done (r ∷ rs) some cut c added = record {
    done = done ++ left ∷ [];
    rest = rs;
    cut = cut ∙ ap (λ x. done ++ x ∷ rs) (sym c.0) ∙ sym (append_assoc done (left ∷ []) rs);
    follows = c.2;
    added = ap (λ (l : List Pair). l ++ record { left = left; right = right } ∷ []) added ∙ append_assoc old (pairs_with right done) (record { left = left; right = right } ∷ [])
        ∙ ap (λ (l : List Pair). old ++ l) (sym (with_more done (left ∷ [])));
  }

  pub follow_next : (last left : ℕ) (pairs : List Pair) → left ≢ 0 → Follows before last right old left pairs → Follows before last right old (before left) (pairs ++ record { left = left; right = right } ∷ [])
  follow_next last left pairs some f chain c = let p = f chain c in next_part left pairs chain p.done p.rest some p.cut p.follows p.added

  whole_part : (left : ℕ) (pairs : List Pair) (chain done rest : List ℕ) → left ≡ 0 → chain ≡ done ++ rest → IsChain before left rest → pairs ≡ old ++ pairs_with right done → pairs ≡ old ++ pairs_with right chain
  whole_part left pairs chain done [] none cut c added = added ∙ ap (λ l. old ++ pairs_with right l) (sym (cut ∙ append-nil done))
  whole_part left pairs chain done (r ∷ rs) none cut c added = absurd (c.1 none)

  pub follow_end : (last left : ℕ) (pairs : List Pair) → left ≡ 0 → Follows before last right old left pairs → (chain : List ℕ) → IsChain before last chain → pairs ≡ old ++ pairs_with right chain
  follow_end last left pairs none f chain c = let p = f chain c in whole_part left pairs chain p.done p.rest none p.cut p.follows p.added

  long_part : (left : ℕ) (pairs : List Pair) (chain done rest : List ℕ) → left ≢ 0 → most_pairs ≤ length pairs → chain ≡ done ++ rest → IsChain before left rest → pairs ≡ old ++ pairs_with right done
      → most_pairs < length old + length chain
  long_part left pairs chain done [] some full cut c added = absurd (some c)
  long_part left pairs chain done (r ∷ rs) some full cut c added =
      let whole : length chain ≡ length done + length (r ∷ rs) = ap (λ l. length l) cut ∙ length-append done (r ∷ rs) in
      let known : length pairs ≡ length old + length done = ap (λ l. length l) added ∙ length-append old (pairs_with right done) ∙ ap (λ m. length old + m) (with_count done) in
      omega (arith, full, whole, known)
    where
      with_count : (xs : List ℕ) → length (pairs_with right xs) ≡ length xs
      with_count [] = refl
      with_count (x ∷ xs) = ap suc (with_count xs)

  pub follow_full : (last left : ℕ) (pairs : List Pair) → left ≢ 0 → most_pairs ≤ length pairs → Follows before last right old left pairs → (chain : List ℕ) → IsChain before last chain → most_pairs < length old + length chain
  follow_full last left pairs some full f chain c = let p = f chain c in long_part left pairs chain p.done p.rest some full p.cut p.follows p.added
