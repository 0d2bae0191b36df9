-- One call of a pass after others.
use Rattle.std.proofs.Common.{◌≡◌, ℕ, List, [], ◌∷◌, ◌++◌, replicate, zero, suc, refl, ap, subst, sym}
use Rattle.lock_book.specs.Told.{Makes, MakesAll}
use Rattle.lock_book.proofs.Uses.{then_calls}
use Rattle.par_barrier.specs.declared.history.BarrierCall.{BarrierCall}
use Rattle.par_barrier.specs.declared.history.BarrierReply.{BarrierReply}
use Rattle.par_barrier.specs.declared.barrier.BarrierPass.{BarrierPass}
use Rattle.par_barrier.specs.Parties.{nobody}
use Rattle.par_barrier.specs.Legal.{BarrierLegal}
use Rattle.par_barrier.specs.Shown.{Called, CalledAll, History, history_of, number_of, own_of}

pub then_call : (a b c : BarrierPass) (calls : List (BarrierCall × BarrierReply)) (k : BarrierCall) (r : BarrierReply) → CalledAll a b calls → number_of b ≡ number_of a → Called b c k r → CalledAll a c (calls ++ (k, r) ∷ [])
then_call a b c calls k r before same call =
    then_calls BarrierLegal nobody (number_of a) (history_of a) (own_of a) (history_of b) (own_of b) (history_of c) (own_of c) calls ((k, r) ∷ []) before
    (history_of c, own_of c, subst (λ (n : ℕ). Makes BarrierLegal nobody n (history_of b) (own_of b) (history_of c) (own_of c) k r) same call, (refl, refl))

-- a pass that has seen nothing new since
pub still : (a b c : BarrierPass) (calls : List (BarrierCall × BarrierReply)) → history_of c ≡ history_of b → own_of c ≡ own_of b → CalledAll a b calls → CalledAll a c calls
still a b c calls seen mine = subst (λ (z : History × History). MakesAll BarrierLegal nobody (number_of a) (history_of a) (own_of a) z.0 z.1 calls) (λ n. (sym seen n, sym mine n))

-- one more of the same
pub one_more_of : {A : Type 0} (n : ℕ) (x : A) → replicate n x ++ x ∷ [] ≡ replicate (suc n) x
one_more_of zero x = refl
one_more_of (suc n) x = ap (λ xs. x ∷ xs) (one_more_of n x)
