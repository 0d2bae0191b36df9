-- The calls of a cell make a chain.
use Rattle.std.proofs.Common.{◌≡◌, ◌≢◌, ◌++◌, ℕ, List, [], ◌∷◌, All, Option, Some, None, map, refl, sym, subst, ◌∙◌}
use Rattle.std.specs.List.Sorted.{IsPermutation}
use Rattle.std.proofs.lemmas.List.Elements.{All-head, All-tail}
use Rattle.std.proofs.lemmas.List.Sorted.{IsPermutation-middle, IsPermutation-refl, IsPermutation-sym, IsPermutation-trans}
use Rattle.join_pairs.specs.Chains.{IsChain, IsRun, last_step, number_in}
use Rattle.join_pairs.specs.Law.{CellsAreChains, latest_first}

told : (s : Option ℕ) (row : ℕ) → (last_step s row).1 ≡ number_in s
told None row = refl
told (Some before) row = refl

leaves : (s : Option ℕ) (row : ℕ) → (last_step s row).0 ≡ Some row
leaves None row = refl
leaves (Some before) row = refl

module _ (before : ℕ → ℕ) where
  abbrev Linked : ℕ × ℕ → Type 0
  Linked e = (e.0 ≢ 0) × (before e.0 ≡ e.1)

  goes_on : (calls : List (ℕ × ℕ)) (s t : Option ℕ) (rows : List ℕ) → IsRun s calls t → All Linked calls → IsChain before (number_in s) rows → IsChain before (number_in t) (latest_first calls rows)
  goes_on [] s t rows run linked chain = subst (λ (o : Option ℕ). IsChain before (number_in o) rows) run chain
  goes_on (e ∷ es) s t rows run linked chain =
      let here = All-head Linked e es linked in
      let reply : before e.0 ≡ number_in s = here.1 ∙ run.0 ∙ told s e.0 in
      goes_on es (Some e.0) t (e.0 ∷ rows) (subst (λ (o : Option ℕ). IsRun o es t) (leaves s e.0) run.1) (All-tail Linked e es linked)
      (refl, here.0, subst (λ r. IsChain before r rows) (sym reply) chain)

pub cells : CellsAreChains
cells before calls last run linked = goes_on before calls None last [] run linked refl

-- the rows of the chain are those of the calls
pub latest-permutation : (calls : List (ℕ × ℕ)) (rows : List ℕ) → IsPermutation (map (λ (e : ℕ × ℕ). e.0) calls ++ rows) (latest_first calls rows)
latest-permutation [] rows = IsPermutation-refl rows
latest-permutation (e ∷ es) rows =
    let firsts = map (λ (e : ℕ × ℕ). e.0) es in
    IsPermutation-trans (e.0 ∷ (firsts ++ rows)) (firsts ++ e.0 ∷ rows) (latest_first es (e.0 ∷ rows))
    (IsPermutation-sym (firsts ++ e.0 ∷ rows) (e.0 ∷ (firsts ++ rows)) (IsPermutation-middle firsts e.0 rows)) (latest-permutation es (e.0 ∷ rows))
