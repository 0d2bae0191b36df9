-- Rows that are put into lists as they are found.
use Rattle.std.proofs.Common.{◌≡◌, ◌<◌, ◌≤◌, ◌+◌, ◌++◌, ◌∙◌, ℕ, All, List, [], ◌∷◌, ap, arith, drop, get_or, length, length-drop, subst, sym, take}
use Rattle.std.proofs.lemmas.List.{drop_more, take_more}
use Rattle.std.proofs.lemmas.List.Elements.{All-push}
use Rattle.par_model.specs.Plan.{Plan}
use Rattle.partial_agg.specs.Rows.{IsAccepted}
use Rattle.row_blocks.specs.Blocks.{Table}
use Rattle.row_lists.specs.Carried.{Carried}
use Rattle.part_run.specs.Carrying.{spread}
use Rattle.part_run.proofs.ByPart.{spread-append}

-- the rows so far, and the next one

module _ (all rest : Table) (row : List (List ℕ)) (at : ℕ) (is : drop at all ≡ row ∷ rest) where
  pub there : at < length all
  there = omega (arith, ap (length {A = List (List ℕ)}) is, length-drop at all)

  both-parts : row ∷ rest ≡ get_or all at [] ∷ drop (at + 1) all
  both-parts = sym is ∙ drop_more all at [] there

  pub next-rest : rest ≡ drop (at + 1) all
  next-rest = ap (λ (l : Table). drop 1 l) both-parts

  next-row : row ≡ get_or all at []
  next-row = ap (λ (l : Table). get_or l 0 []) both-parts

  pub next-front : take (at + 1) all ≡ take at all ++ row ∷ []
  next-front = take_more all at [] there ∙ ap (λ (r : List (List ℕ)). take at all ++ r ∷ []) (sym next-row)

  pub accepted-next : (plan : Plan) (width : ℕ) → All (IsAccepted plan width) (take at all) → IsAccepted plan width row → All (IsAccepted plan width) (take (at + 1) all)
  accepted-next plan width before now = subst (λ (l : Table). All (IsAccepted plan width) l) (sym next-front) (All-push (IsAccepted plan width) (take at all) row before now)

-- none is left
pub all-found : (all : Table) (at : ℕ) → drop at all ≡ [] → length all ≤ at
all-found all at is = omega (arith, ap (length {A = List (List ℕ)}) is, length-drop at all)

-- the lists after one row more
pub spread-found : (all rest : Table) (row : List (List ℕ)) (at : ℕ) → drop at all ≡ row ∷ rest → (plan : Plan) (start mid new : List (List Carried)) → mid ≡ spread plan start (take at all) → new ≡ spread plan mid (row ∷ [])
    → new ≡ spread plan start (take (at + 1) all)
spread-found all rest row at is plan start mid new before now =
    now ∙ ap (λ (ls : List (List Carried)). spread plan ls (row ∷ [])) before ∙ sym (spread-append plan start (take at all) (row ∷ [])) ∙ ap (spread plan start) (sym (next-front all rest row at is))
