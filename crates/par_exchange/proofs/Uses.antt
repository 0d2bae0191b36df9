-- For the callers of an exchange.
use Rattle.std.proofs.Common.{◌≡◌, ◌∙◌, ℕ, zero, suc, List, [], ◌∷◌, length, replicate, true, refl, ap, sym, arith}
use Rattle.std.specs.Prelude.{Option, Some, None}
use mathlib.Core.Option.{some-injective}
use lib.ListN.{get_elem?}
use Rattle.par_exchange.specs.declared.history.ExchangeName.{ExchangeName}
use Rattle.par_exchange.specs.declared.history.ExchangeState.{ExchangeState}
use Rattle.par_exchange.specs.declared.exchange.Exchange.{Exchange}
use Rattle.par_exchange.specs.Legal.{AreMissing}
use Rattle.par_exchange.specs.Shown.{IsExchange}
use Rattle.par_exchange.specs.States.{who}

-- an exchange was made with one sign
pub one_sign : {X T S : Type 0} (a b : S) (x : Exchange X T S) → IsExchange a x → IsExchange b x → a ≡ b
one_sign {X} {T} {S} a b x e f = ap (λ (z : ExchangeName S × ExchangeState T). z.0.sign) (some-injective _ _ (ap (λ xs. get_elem? xs 0) (sym e.opens ∙ f.opens)))

-- if nobody may leave, each place has a token
pub all_here : {T : Type 0} (parties : ℕ) (places : List (Option T)) → length places ≡ parties → AreMissing (λ _. ⊥) parties places → who places ≡ replicate parties true
all_here zero [] e f = refl
all_here zero (p ∷ ps) e f = absurd (omega (arith, e))
all_here (suc n) [] e f = absurd (omega (arith, e))
all_here (suc n) (None ∷ ps) e f = absurd (f 0 (omega arith) refl)
all_here (suc n) (Some x ∷ ps) e f = λ i. true ∷ all_here n ps (omega (arith, e)) (λ k lt a. f (suc k) (omega (arith, lt)) a) i
