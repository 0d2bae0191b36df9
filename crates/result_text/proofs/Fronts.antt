-- The values of a group are told by the first slots of its state, as many as there are aggregates.
use Rattle.std.proofs.Common.{◌≡◌, ◌≤◌, ◌++◌, ◌∷◌, [], refl, sym, subst, arith, ℕ, zero, suc, List, All, drop, length, map, take}
use Rattle.std.proofs.lemmas.List.{take-append-drop}
use Rattle.std.proofs.lemmas.List.Elements.{All-append, All-drop, All-same, All-take}
use Rattle.std.specs.List.{zip}
use Rattle.par_model.specs.Plan.{Plan}
use Rattle.par_model.specs.Table.{value_text, values_text}
use Rattle.par_model.specs.declared.plan.Item.{Item}
use Rattle.par_model.specs.declared.state.AggState.{AggState}
use Rattle.par_model.specs.declared.state.SlotState.{SlotState}
use Rattle.result_text.specs.Printable.{IsSmallSlot}

zip-front : (items : List Item) (xs ys : List SlotState) (n : ℕ) → length items ≤ n → take n xs ≡ take n ys → zip items xs ≡ zip items ys
zip-front [] xs ys n few same = refl
zip-front (item ∷ items) xs ys zero few same = absurd (omega arith)
zip-front (item ∷ items) [] [] (suc n) few same = refl
zip-front (item ∷ items) [] (y ∷ ys) (suc n) few same = absurd (cc)
zip-front (item ∷ items) (x ∷ xs) [] (suc n) few same = absurd (cc)
zip-front (item ∷ items) (x ∷ xs) (y ∷ ys) (suc n) few same =
    let first : x ≡ y = cc in
    let rest : take n xs ≡ take n ys = cc in
    λ i. (item, first i) ∷ zip-front items xs ys n (omega arith) rest i

pub values-front : (plan : Plan) (n : ℕ) (read state : AggState) → length plan.items ≤ n → read.rows ≡ state.rows → take n read.slots ≡ take n state.slots → values_text plan read ≡ values_text plan state
values-front plan n read state few rows front =
    λ i. map (λ p. value_text p.0.kind p.0.places (rows i) p.1) (zip-front plan.items read.slots state.slots n few front i)

-- slots are small where those of the front and the others are
pub front-small : (n : ℕ) (read state old : List SlotState) → take n read ≡ take n state → drop n read ≡ drop n old → All IsSmallSlot state → All IsSmallSlot old → All IsSmallSlot read
front-small n read state old front rest small others =
    All-same IsSmallSlot read (take n read ++ drop n read) (sym (take-append-drop n read))
    (All-append IsSmallSlot (take n read) (drop n read) (subst (All IsSmallSlot) (sym front) (All-take IsSmallSlot n state small)) (subst (All IsSmallSlot) (sym rest) (All-drop IsSmallSlot n old others)))
