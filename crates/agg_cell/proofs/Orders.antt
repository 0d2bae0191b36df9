-- The order of the called states doesn't matter.
use Rattle.std.proofs.Common.{◌≡◌, ◌∙◌, ℕ, List, ◌∷◌, Some, ap, sym, refl, arith}
use Rattle.std.specs.List.{AllByRecursion, sum_by}
use Rattle.std.proofs.lemmas.List.Elements.{recursion_from_All}
use Rattle.std.proofs.lemmas.List.Sums.{sum_by-cons}
use Rattle.par_model.specs.declared.state.AggState.{AggState}
use Rattle.partial_agg.specs.Laws.{IsSettled, both}
use Rattle.partial_agg.proofs.Combining.{commutes}
use Rattle.agg_cell.specs.Called.{AnyOrder, CountsFit, count_at}
use Rattle.agg_cell.proofs.Combining.{both-assoc, count-gathered, gathered, gathered-is}
use Rattle.agg_cell.proofs.Permuted.{permuted}

-- what has to hold of the states, and what then holds of them in another order
record IsGood (states : List AggState) : Type 0 where
  settled : AllByRecursion IsSettled states
  fits : CountsFit states

record IsSame (xs ys : List AggState) : Type 0 where
  gathers : gathered ys ≡ gathered xs
  settled : AllByRecursion IsSettled ys
  counts : (i : ℕ) → sum_by (count_at i) ys ≡ sum_by (count_at i) xs

abbrev Reordered : List AggState → List AggState → Type 0
Reordered xs ys = IsGood xs → IsSame xs ys

same : (xs : List AggState) → Reordered xs xs
same xs good = record { gathers = refl; settled = good.settled; counts = λ i. refl }

behind : (x : AggState) (xs ys : List AggState) → Reordered xs ys → Reordered (x ∷ xs) (x ∷ ys)
behind x xs ys r good =
    let rest = r (record { settled = good.settled.1; fits = λ i. omega (arith, good.fits i, sum_by-cons (count_at i) x xs) }) in
    record { gathers = ap (both (Some x)) rest.gathers; settled = (good.settled.0, rest.settled); counts = λ i. omega (arith, rest.counts i, sum_by-cons (count_at i) x xs, sum_by-cons (count_at i) x ys) }

neighbours : (x y : AggState) (xs : List AggState) → Reordered (x ∷ y ∷ xs) (y ∷ x ∷ xs)
neighbours x y xs good =
    let others = gathered xs in
    record {
      gathers = sym (both-assoc (Some y) (Some x) others (λ i. omega (arith, good.fits i, count-gathered i xs, sum_by-cons (count_at i) x (y ∷ xs), sum_by-cons (count_at i) y xs)))
          ∙ ap (λ s. both (Some s) others) (commutes y x good.settled.1.0 good.settled.0)
          ∙ both-assoc (Some x) (Some y) others (λ i. omega (arith, good.fits i, count-gathered i xs, sum_by-cons (count_at i) x (y ∷ xs), sum_by-cons (count_at i) y xs));
      settled = (good.settled.1.0, (good.settled.0, good.settled.1.1));
      counts = λ i. omega (arith, sum_by-cons (count_at i) x (y ∷ xs), sum_by-cons (count_at i) y xs, sum_by-cons (count_at i) y (x ∷ xs), sum_by-cons (count_at i) x xs);
    }

through : (xs ys zs : List AggState) → Reordered xs ys → Reordered ys zs → Reordered xs zs
through xs ys zs r s good =
    let one = r good in
    let two = s (record { settled = one.settled; fits = λ i. omega (arith, good.fits i, one.counts i) }) in
    record { gathers = two.gathers ∙ one.gathers; settled = two.settled; counts = λ i. two.counts i ∙ one.counts i }

pub any_order : AnyOrder
any_order xs ys settled fits order =
    let other = permuted Reordered same behind neighbours through xs ys order (record { settled = recursion_from_All IsSettled xs settled; fits = fits }) in
    gathered-is ys (λ i. omega (arith, fits i, other.counts i)) ∙ other.gathers ∙ sym (gathered-is xs fits)
