-- States combined from the last to the first, which is the same where no count wraps; so they combine in parts.
use Rattle.std.proofs.Common.{◌≡◌, ◌<◌, ◌≤◌, ◌+◌, ◌^◌, ◌++◌, ◌∙◌, ℕ, zero, suc, List, [], ◌∷◌, Option, Some, None, fold, get_or, ap, sym, refl, arith}
use Rattle.std.specs.List.{sum_by}
use Rattle.std.proofs.lemmas.List.Sums.{sum_by-append, sum_by-cons}
use Rattle.par_model.specs.Aggregate.{no_values}
use Rattle.par_model.specs.declared.state.AggState.{AggState}
use Rattle.par_model.specs.declared.state.SlotState.{SlotState}
use Rattle.partial_agg.specs.Laws.{both, CountsFit as ThreeFit}
use Rattle.partial_agg.specs.State.{combined, combined_slots}
use Rattle.partial_agg.proofs.Combining.{associates}
use Rattle.agg_cell.specs.Called.{CountsFit, PartsCombine, all_combined, count_at}

abbrev pub gathered : List AggState → Option AggState
gathered [] = None
gathered (state ∷ states) = both (Some state) (gathered states)

-- how many values a slot has, of a state if there is one
abbrev pub count_in : ℕ → Option AggState → ℕ
count_in i None = 0
count_in i (Some state) = count_at i state

slots_count : (i : ℕ) (slots others : List SlotState) → (get_or (combined_slots slots others) i no_values).count ≤ (get_or slots i no_values).count + (get_or others i no_values).count
slots_count i [] others = omega arith
slots_count i (a ∷ slots) [] = omega arith
slots_count zero (a ∷ slots) (b ∷ others) = omega arith
slots_count (suc i) (a ∷ slots) (b ∷ others) = slots_count i slots others

pub count-combined : (i : ℕ) (a b : AggState) → count_at i (combined a b) ≤ count_at i a + count_at i b
count-combined i a b = slots_count i a.slots b.slots

count-both : (i : ℕ) (a b : Option AggState) → count_in i (both a b) ≤ count_in i a + count_in i b
count-both i None b = omega arith
count-both i (Some a) None = omega arith
count-both i (Some a) (Some b) = count-combined i a b

pub count-gathered : (i : ℕ) (states : List AggState) → count_in i (gathered states) ≤ sum_by (count_at i) states
count-gathered i [] = omega arith
count-gathered i (state ∷ states) = omega (arith, count-both i (Some state) (gathered states), count-gathered i states, sum_by-cons (count_at i) state states)

-- ---- associative

pub three_fit : (as' bs cs : List SlotState) → ((i : ℕ) → (get_or as' i no_values).count + (get_or bs i no_values).count + (get_or cs i no_values).count < 2 ^ 64) → ThreeFit as' bs cs
three_fit [] bs cs h = tt
three_fit (a ∷ as') [] cs h = tt
three_fit (a ∷ as') (b ∷ bs) [] h = tt
three_fit (a ∷ as') (b ∷ bs) (c ∷ cs) h = (h zero, three_fit as' bs cs (λ i. h (suc i)))

pub both-assoc : (a b c : Option AggState) → ((i : ℕ) → count_in i a + count_in i b + count_in i c < 2 ^ 64) → both (both a b) c ≡ both a (both b c)
both-assoc None b c h = refl
both-assoc (Some a) None c h = refl
both-assoc (Some a) (Some b) None h = refl
both-assoc (Some a) (Some b) (Some c) h = ap Some (associates a b c (three_fit a.slots b.slots c.slots h))

-- ---- one after the other, and from the last to the first

tail_fits : (state : AggState) (states : List AggState) → CountsFit (state ∷ states) → CountsFit states
tail_fits state states fits i = omega (arith, fits i, sum_by-cons (count_at i) state states)

folded : (state : AggState) (states : List AggState) → CountsFit (state ∷ states) → Some (fold combined state states) ≡ both (Some state) (gathered states)
folded state [] fits = refl
folded state (next ∷ states) fits =
    folded (combined state next) states (λ i. omega (arith, fits i, count-combined i state next, sum_by-cons (count_at i) (combined state next) states, sum_by-cons (count_at i) state (next ∷ states), sum_by-cons (count_at i) next states))
    ∙ both-assoc (Some state) (Some next) (gathered states)
    (λ i. omega (arith, fits i, count-gathered i states, sum_by-cons (count_at i) state (next ∷ states), sum_by-cons (count_at i) next states))

pub gathered-is : (states : List AggState) → CountsFit states → all_combined states ≡ gathered states
gathered-is [] fits = refl
gathered-is (state ∷ states) fits = folded state states fits

gathered-append : (xs ys : List AggState) → CountsFit (xs ++ ys) → gathered (xs ++ ys) ≡ both (gathered xs) (gathered ys)
gathered-append [] ys fits = refl
gathered-append (x ∷ xs) ys fits =
    ap (both (Some x)) (gathered-append xs ys (tail_fits x (xs ++ ys) fits))
    ∙ sym (both-assoc (Some x) (gathered xs) (gathered ys)
    (λ i. omega (arith, fits i, count-gathered i xs, count-gathered i ys, sum_by-cons (count_at i) x (xs ++ ys), sum_by-append (count_at i) xs ys)))

pub parts : PartsCombine
parts xs ys fits =
    gathered-is (xs ++ ys) fits ∙ gathered-append xs ys fits
    ∙ ap (λ o. both o (gathered ys)) (sym (gathered-is xs (λ i. omega (arith, fits i, sum_by-append (count_at i) xs ys))))
    ∙ ap (both (all_combined xs)) (sym (gathered-is ys (λ i. omega (arith, fits i, sum_by-append (count_at i) xs ys))))
