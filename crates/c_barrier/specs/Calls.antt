-- What a call does to a handle, by its code. A blank handle has None.
use Rattle.std.specs.Prelude.{◌≡◌, ℕ, ◌⊎◌, Bool, cond, Option, None, Some, IsSome, Result, Ok, Err}
use Rattle.par_barrier.specs.declared.history.BarrierCall.{BarrierCall}
use Rattle.par_barrier.specs.declared.history.BarrierCall.TheVariants as call
use Rattle.par_barrier.specs.declared.history.BarrierReply.{BarrierReply}
use Rattle.par_barrier.specs.declared.history.BarrierReply.TheVariants.{Attached, Left, Released}
use Rattle.par_barrier.specs.declared.history.BarrierReply.TheVariants as reply
use Rattle.c_barrier.specs.Made.{IsFirst, IsFurther, IsRefused}
use Rattle.c_barrier.specs.Tries.{Tries}
use Rattle.c_barrier.specs.declared.code.Code.{Code}
use Rattle.c_barrier.specs.declared.code.Code.TheVariants.{AlreadyIn, Blank, Done, InUse, NoMemory, NotIn, Twice, Waiting, WouldBlock}
use Rattle.c_barrier.specs.declared.shared.Share.{Share}

-- 1 if it is so, and else 0
abbrev pub one_if : Bool → ℕ
one_if b = cond b 1 0

-- what an answer says by a code and by two numbers that are written: the phase that is on, and 1 if the caller is elected,
-- or if nobody takes part any more. If there is no answer, or the caller has to wait, they are as before
abbrev pub Answers : Option BarrierReply → (phase flag phase' flag' : ℕ) → Code → Type 0
Answers None phase flag phase' flag' code = (code ≡ WouldBlock) × (phase' ≡ phase) × (flag' ≡ flag)
Answers (Some reply.Waiting) phase flag phase' flag' code = (code ≡ Waiting) × (phase' ≡ phase) × (flag' ≡ flag)
Answers (Some (Attached p)) phase flag phase' flag' code = (code ≡ Done) × (phase' ≡ p) × (flag' ≡ 0)
Answers (Some (Released p elected)) phase flag phase' flag' code = (code ≡ Done) × (phase' ≡ p) × (flag' ≡ one_if elected)
Answers (Some (Left p last)) phase flag phase' flag' code = (code ≡ Done) × (phase' ≡ p) × (flag' ≡ one_if last)
Answers (Some (reply.AlreadyIn p)) phase flag phase' flag' code = (code ≡ AlreadyIn) × (phase' ≡ p) × (flag' ≡ 0)
Answers (Some (reply.NotIn p)) phase flag phase' flag' code = (code ≡ NotIn) × (phase' ≡ p) × (flag' ≡ 0)
Answers (Some (reply.Twice p)) phase flag phase' flag' code = (code ≡ Twice) × (phase' ≡ p) × (flag' ≡ 0)

-- a try of a call: a blank handle stays blank and has the code Blank
abbrev pub Makes : Option Share → Option Share → BarrierCall → (phase flag phase' flag' : ℕ) → Code → Type 0
Makes None new c phase flag phase' flag' code = (new ≡ None) × (code ≡ Blank) × (phase' ≡ phase) × (flag' ≡ flag)
Makes (Some s) new c phase flag phase' flag' code = (t : Share) × (answer : Option BarrierReply) × (new ≡ Some t) × Tries s t c answer × Answers answer phase flag phase' flag' code

-- the caller leaves the barrier, if it takes part, and goes, and the handle is blank; or another caller is at the
-- barrier, and it stays
abbrev pub Closes : Option Share → Option Share → Code → Type 0
Closes None new code = (new ≡ None) × (code ≡ Blank)
Closes (Some s) new Done = (new ≡ None) × ((t : Share) × (reply : BarrierReply) × Tries s t call.Detach (Some reply))
Closes (Some s) new WouldBlock = (t : Share) × (new ≡ Some t) × Tries s t call.Detach None
Closes (Some s) new code = ⊥

-- a caller is put into a blank handle, if there is memory
abbrev pub Fills : Share → Option Share → Code → Type 0
Fills s new Done = new ≡ Some s
Fills s new NoMemory = new ≡ None
Fills s new code = ⊥

-- the handle of the first caller of a new barrier
abbrev pub Opens : ℕ → Option Share → Option Share → Code → Type 0
Opens callers first first' Done = (first ≡ None) × ((s : Share) × (first' ≡ Some s) × IsFirst callers s)
Opens callers first first' InUse = IsSome first × (first' ≡ first)
Opens callers first first' code = IsRefused callers code × (first ≡ None) × (first' ≡ None)

-- a further caller: of a caller whose share was s and is t, by what came of it
abbrev pub SharesOne : Share → Share → Option Share → Code → Type 0
SharesOne s t next Done = (u : Share) × (next ≡ Some u) × IsFurther s t (Ok u)
SharesOne s t next NoMemory = (next ≡ None) × (IsFurther s t (Err NoMemory) ⊎ ((u : Share) × IsFurther s t (Ok u)))
SharesOne s t next code = (next ≡ None) × IsFurther s t (Err code)

-- the handle of a further caller, from that of this one
abbrev pub Shares : Option Share → Option Share → Option Share → Option Share → Code → Type 0
Shares from (Some u) from' next' code = (code ≡ InUse) × (from' ≡ from) × (next' ≡ Some u)
Shares None None from' next' code = (code ≡ Blank) × (from' ≡ None) × (next' ≡ None)
Shares (Some s) None from' next' code = (t : Share) × (from' ≡ Some t) × SharesOne s t next' code
