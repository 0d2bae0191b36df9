-- What a call does to a handle, put together of what it does to the handle's caller.
use Rattle.std.proofs.Common.{◌≡◌, ℕ, List, Option, None, Some, Result, Ok, Err, true, is_none, refl, sym, subst, inl, inr}
use Rattle.std.specs.Prelude.{T}
use Rattle.c_area.specs.Calls.{Fills, Opens, Shares, SharesOne}
use Rattle.c_area.specs.Made.{IsFirst, IsFurther}
use Rattle.c_area.specs.declared.code.Code.{Code}
use Rattle.c_area.specs.declared.code.Code.TheVariants.{Absent, BadCallers, BadSize, Blank, Done, InUse, NoMemory, NoSpace, NoWord, StillIn, Stranger, WouldBlock}
use Rattle.c_area.specs.declared.shared.Share.{Share}

pub none_of : (o : Option Share) → is_none o ≡ true → o ≡ None
none_of None e = refl
none_of (Some x) e = absurd (subst T (sym e) tt)

-- what is so of the caller that was taken out is so of what stood there
pub of_taken : (F : Option Share → Type 0) (old : Option Share) (s : Share) → old ≡ Some s → F (Some s) → F old
of_taken F old s was x = subst F (sym was) x

-- the first caller of a new area is put into a blank handle, or there is no memory for that
pub opens : (callers pages : ℕ) (first first' : Option Share) (code : Code) (s : Share) → first ≡ None → IsFirst callers pages s → Fills s first' code → Opens callers pages first first' code
opens callers pages first first' Done s blank made fills = (blank, (s, fills, made))
opens callers pages first first' NoMemory s blank made fills = (tt, blank, fills)
opens callers pages first first' WouldBlock s blank made fills = absurd fills
opens callers pages first first' Absent s blank made fills = absurd fills
opens callers pages first first' Blank s blank made fills = absurd fills
opens callers pages first first' BadSize s blank made fills = absurd fills
opens callers pages first first' BadCallers s blank made fills = absurd fills
opens callers pages first first' NoSpace s blank made fills = absurd fills
opens callers pages first first' NoWord s blank made fills = absurd fills
opens callers pages first first' InUse s blank made fills = absurd fills
opens callers pages first first' StillIn s blank made fills = absurd fills
opens callers pages first first' Stranger s blank made fills = absurd fills

-- a further caller is put into a blank handle, or there is no memory for that
pub shares_made : (s t u : Share) (next : Option Share) (code : Code) → IsFurther s t (Ok u) → Fills u next code → SharesOne s t next code
shares_made s t u next Done further fills = (u, fills, further)
shares_made s t u next NoMemory further fills = (fills, inr (u, further))
shares_made s t u next WouldBlock further fills = absurd fills
shares_made s t u next Absent further fills = absurd fills
shares_made s t u next Blank further fills = absurd fills
shares_made s t u next BadSize further fills = absurd fills
shares_made s t u next BadCallers further fills = absurd fills
shares_made s t u next NoSpace further fills = absurd fills
shares_made s t u next NoWord further fills = absurd fills
shares_made s t u next InUse further fills = absurd fills
shares_made s t u next StillIn further fills = absurd fills
shares_made s t u next Stranger further fills = absurd fills

-- there is no further caller
pub shares_none : (s t : Share) (next : Option Share) (code : Code) → IsFurther s t (Err code) → next ≡ None → SharesOne s t next code
shares_none s t next BadCallers refused blank = (blank, refused)
shares_none s t next NoMemory refused blank = (blank, inl refused)
shares_none s t next Done refused blank = absurd refused
shares_none s t next WouldBlock refused blank = absurd refused
shares_none s t next Absent refused blank = absurd refused
shares_none s t next Blank refused blank = absurd refused
shares_none s t next BadSize refused blank = absurd refused
shares_none s t next NoSpace refused blank = absurd refused
shares_none s t next NoWord refused blank = absurd refused
shares_none s t next InUse refused blank = absurd refused
shares_none s t next StillIn refused blank = absurd refused
shares_none s t next Stranger refused blank = absurd refused

-- the caller that is asked was taken out and put back
pub shares : (from next from' next' : Option Share) (code : Code) (s t : Share) → from ≡ Some s → next ≡ None → from' ≡ Some t → SharesOne s t next' code → Shares from next from' next' code
shares from next from' next' code s t was blank is one =
    let of_blank : Shares (Some s) None from' next' code = (t, is, one) in
    let of_one : Shares from None from' next' code = subst (λ (o : Option Share). Shares o None from' next' code) (sym was) of_blank in
    subst (λ (o : Option Share). Shares from o from' next' code) (sym blank) of_one
