-- What a call does to a handle, put together of what it does to the handle's caller.
use Rattle.std.proofs.Common.{◌≡◌, ℕ, List, Option, None, Some, Result, Ok, Err, true, is_none, refl, sym, subst, inl, inr}
use Rattle.std.specs.Prelude.{T}
use Rattle.c_table.specs.Calls.{Answers, AnswersCount, Changes, CountsKeys, Fills, ListsKeys, Opens, Shares, SharesOne}
use Rattle.c_table.specs.Looks.{Counts, Lists}
use Rattle.c_table.specs.Made.{IsFirst, IsFurther}
use Rattle.c_table.specs.Tries.{Tries}
use Rattle.c_table.specs.declared.code.Code.{Code}
use Rattle.c_table.specs.declared.code.Code.TheVariants.{Absent, BadCallers, BadSize, Blank, Done, Grown, InUse, NoMemory, NoSpace, ShortBuffer, WouldBlock}
use Rattle.c_table.specs.declared.shared.Share.{Share}
use Rattle.c_table.specs.declared.word.WordCall.{WordCall}

pub none_of : (o : Option Share) → is_none o ≡ true → o ≡ None
none_of None e = refl
none_of (Some x) e = absurd (subst T (sym e) tt)

-- the caller was taken out, tried, and put back
pub changes : (old new : Option Share) (key : ℕ) (call : WordCall) (before after : ℕ) (code : Code) (s t : Share) (answer : Result (Option ℕ) Code) → old ≡ Some s → new ≡ Some t → Tries s t key call answer → Answers answer before after code
    → Changes old new key call before after code
changes old new key call before after code s t answer was is tries told = subst (λ (o : Option Share). Changes o new key call before after code) (sym was) (t, answer, is, tries, told)

-- the same of a count and of a listing
pub counts : (old new : Option Share) (partition before after : ℕ) (code : Code) (s t : Share) (answer : Result ℕ Code) → old ≡ Some s → new ≡ Some t → Counts s t partition answer → AnswersCount answer before after code
    → CountsKeys old new partition before after code
counts old new partition before after code s t answer was is counted told = subst (λ (o : Option Share). CountsKeys o new partition before after code) (sym was) (t, answer, is, counted, told)

pub lists : (old new : Option Share) (partition : ℕ) (keys words keys' words' : List ℕ) (code : Code) (n : ℕ) (s t : Share) → old ≡ Some s → new ≡ Some t → Lists s t partition keys words keys' words' code n → ListsKeys old new partition keys words keys' words' code n
lists old new partition keys words keys' words' code n s t was is listed = subst (λ (o : Option Share). ListsKeys o new partition keys words keys' words' code n) (sym was) (t, is, listed)

-- the first caller of a new table is put into a blank handle, or there is no memory for that
pub opens : (callers words seed : ℕ) (first first' : Option Share) (code : Code) (s : Share) → first ≡ None → IsFirst callers words seed s → Fills s first' code → Opens callers words seed first first' code
opens callers words seed first first' Done s blank made fills = (blank, (s, fills, made))
opens callers words seed first first' NoMemory s blank made fills = (tt, blank, fills)
opens callers words seed first first' WouldBlock s blank made fills = absurd fills
opens callers words seed first first' Absent s blank made fills = absurd fills
opens callers words seed first first' Grown s blank made fills = absurd fills
opens callers words seed first first' Blank s blank made fills = absurd fills
opens callers words seed first first' BadSize s blank made fills = absurd fills
opens callers words seed first first' BadCallers s blank made fills = absurd fills
opens callers words seed first first' NoSpace s blank made fills = absurd fills
opens callers words seed first first' ShortBuffer s blank made fills = absurd fills
opens callers words seed first first' InUse s blank made fills = absurd fills

-- a further caller is put into a blank handle, or there is no memory for that
pub shares_made : (words : ℕ) (s t u : Share) (next : Option Share) (code : Code) → IsFurther words s t (Ok u) → Fills u next code → SharesOne words s t next code
shares_made words s t u next Done further fills = (u, fills, further)
shares_made words s t u next NoMemory further fills = (fills, inr (u, further))
shares_made words s t u next WouldBlock further fills = absurd fills
shares_made words s t u next Absent further fills = absurd fills
shares_made words s t u next Grown further fills = absurd fills
shares_made words s t u next Blank further fills = absurd fills
shares_made words s t u next BadSize further fills = absurd fills
shares_made words s t u next BadCallers further fills = absurd fills
shares_made words s t u next NoSpace further fills = absurd fills
shares_made words s t u next ShortBuffer further fills = absurd fills
shares_made words s t u next InUse further fills = absurd fills

-- there is no further caller
pub shares_none : (words : ℕ) (s t : Share) (next : Option Share) (code : Code) → IsFurther words s t (Err code) → next ≡ None → SharesOne words s t next code
shares_none words s t next BadCallers refused blank = (blank, refused)
shares_none words s t next NoSpace refused blank = (blank, refused)
shares_none words s t next NoMemory refused blank = (blank, inl refused)
shares_none words s t next Done refused blank = absurd refused
shares_none words s t next WouldBlock refused blank = absurd refused
shares_none words s t next Absent refused blank = absurd refused
shares_none words s t next Grown refused blank = absurd refused
shares_none words s t next Blank refused blank = absurd refused
shares_none words s t next BadSize refused blank = absurd refused
shares_none words s t next ShortBuffer refused blank = absurd refused
shares_none words s t next InUse refused blank = absurd refused

-- the caller that is asked was taken out and put back
pub shares : (words : ℕ) (from next from' next' : Option Share) (code : Code) (s t : Share) → from ≡ Some s → next ≡ None → from' ≡ Some t → SharesOne words s t next' code → Shares words from next from' next' code
shares words from next from' next' code s t was blank is one =
    let of_blank : Shares words (Some s) None from' next' code = (t, is, one) in
    let of_one : Shares words from None from' next' code = subst (λ (o : Option Share). Shares words o None from' next' code) (sym was) of_blank in
    subst (λ (o : Option Share). Shares words from o from' next' code) (sym blank) of_one
