-- What a call does to a handle, put together of what it does to the handle's caller.
use Rattle.std.proofs.Common.{◌≡◌, ℕ, Option, None, Some, Result, Ok, Err, true, is_none, refl, sym, subst, inl, inr}
use Rattle.std.specs.Prelude.{T}
use Rattle.par_barrier.specs.declared.history.BarrierCall.{BarrierCall}
use Rattle.par_barrier.specs.declared.history.BarrierCall.TheVariants as call
use Rattle.par_barrier.specs.declared.history.BarrierReply.{BarrierReply}
use Rattle.c_barrier.specs.Calls.{Answers, Closes, Fills, Makes, Opens, Shares, SharesOne}
use Rattle.c_barrier.specs.Made.{IsFirst, IsFurther}
use Rattle.c_barrier.specs.Tries.{Tries}
use Rattle.c_barrier.specs.declared.code.Code.{Code}
use Rattle.c_barrier.specs.declared.code.Code.TheVariants.{AlreadyIn, BadCallers, Blank, Done, InUse, NoMemory, NotIn, Twice, Waiting, WouldBlock}
use Rattle.c_barrier.specs.declared.shared.Share.{Share}

pub none_of : (o : Option Share) → is_none o ≡ true → o ≡ None
none_of None e = refl
none_of (Some x) e = absurd (subst T (sym e) tt)

-- the caller was taken out, tried, and put back
pub makes : (old new : Option Share) (c : BarrierCall) (phase flag phase' flag' : ℕ) (code : Code) (s t : Share) (answer : Option BarrierReply) → old ≡ Some s → new ≡ Some t → Tries s t c answer → Answers answer phase flag phase' flag' code
    → Makes old new c phase flag phase' flag' code
makes old new c phase flag phase' flag' code s t answer was is tries told = subst (λ (o : Option Share). Makes o new c phase flag phase' flag' code) (sym was) (t, answer, is, tries, told)

-- the caller was taken out, left, and went
pub closes : (old new : Option Share) (s t : Share) (reply : BarrierReply) → old ≡ Some s → new ≡ None → Tries s t call.Detach (Some reply) → Closes old new Done
closes old new s t reply was is tries = subst (λ (o : Option Share). Closes o new Done) (sym was) (is, (t, reply, tries))

-- the caller was taken out, found another caller at the barrier, and was put back
pub stays : (old new : Option Share) (s t : Share) → old ≡ Some s → new ≡ Some t → Tries s t call.Detach None → Closes old new WouldBlock
stays old new s t was is tries = subst (λ (o : Option Share). Closes o new WouldBlock) (sym was) (t, is, tries)

-- the first caller of a new barrier is put into a blank handle, or there is no memory for that
pub opens : (callers : ℕ) (first first' : Option Share) (code : Code) (s : Share) → first ≡ None → IsFirst callers s → Fills s first' code → Opens callers first first' code
opens callers first first' Done s blank made fills = (blank, (s, fills, made))
opens callers first first' NoMemory s blank made fills = (tt, blank, fills)
opens callers first first' WouldBlock s blank made fills = absurd fills
opens callers first first' Waiting s blank made fills = absurd fills
opens callers first first' Blank s blank made fills = absurd fills
opens callers first first' BadCallers s blank made fills = absurd fills
opens callers first first' AlreadyIn s blank made fills = absurd fills
opens callers first first' NotIn s blank made fills = absurd fills
opens callers first first' Twice s blank made fills = absurd fills
opens callers first first' InUse s blank made fills = absurd fills

-- a further caller is put into a blank handle, or there is no memory for that
pub shares_made : (s t u : Share) (next : Option Share) (code : Code) → IsFurther s t (Ok u) → Fills u next code → SharesOne s t next code
shares_made s t u next Done further fills = (u, fills, further)
shares_made s t u next NoMemory further fills = (fills, inr (u, further))
shares_made s t u next WouldBlock further fills = absurd fills
shares_made s t u next Waiting further fills = absurd fills
shares_made s t u next Blank further fills = absurd fills
shares_made s t u next BadCallers further fills = absurd fills
shares_made s t u next AlreadyIn further fills = absurd fills
shares_made s t u next NotIn further fills = absurd fills
shares_made s t u next Twice further fills = absurd fills
shares_made s t u next InUse further fills = absurd fills

-- there is no further caller
pub shares_none : (s t : Share) (next : Option Share) (code : Code) → IsFurther s t (Err code) → next ≡ None → SharesOne s t next code
shares_none s t next BadCallers refused blank = (blank, refused)
shares_none s t next NoMemory refused blank = (blank, inl refused)
shares_none s t next Done refused blank = absurd refused
shares_none s t next WouldBlock refused blank = absurd refused
shares_none s t next Waiting refused blank = absurd refused
shares_none s t next Blank refused blank = absurd refused
shares_none s t next AlreadyIn refused blank = absurd refused
shares_none s t next NotIn refused blank = absurd refused
shares_none s t next Twice refused blank = absurd refused
shares_none s t next InUse refused blank = absurd refused

-- the caller that is asked was taken out and put back
pub shares : (from next from' next' : Option Share) (code : Code) (s t : Share) → from ≡ Some s → next ≡ None → from' ≡ Some t → SharesOne s t next' code → Shares from next from' next' code
shares from next from' next' code s t was blank is one =
    let of_blank : Shares (Some s) None from' next' code = (t, is, one) in
    let of_one : Shares from None from' next' code = subst (λ (o : Option Share). Shares o None from' next' code) (sym was) of_blank in
    subst (λ (o : Option Share). Shares from o from' next' code) (sym blank) of_one
