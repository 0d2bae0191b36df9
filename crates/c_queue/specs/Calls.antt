-- What a call does to a handle, by its code. A blank handle has None.
use Rattle.std.specs.Prelude.{◌≡◌, ℕ, ◌⊎◌, Bool, true, false, List, Option, None, Some, IsSome}
use Rattle.mq_handle.specs.Receives.{Incoming}
use Rattle.c_queue.specs.Sides.{Outgoing}
use Rattle.c_queue.specs.Receives.{HasNothing}
use Rattle.c_queue.specs.Ends.{EndSends, EndSendsWhole, EndFlushes, EndReceives, EndLeaves, has_left}
use Rattle.c_queue.specs.Made.{IsQueue, IsRefused}
use Rattle.c_queue.specs.declared.code.Code.{Code}
use Rattle.c_queue.specs.declared.code.Code.TheVariants.{Done, Blank, InUse, StillIn}
use Rattle.c_queue.specs.declared.end.End.{End}
use Rattle.c_queue.specs.declared.end.End.TheVariants.{Sends as Out, Receives as In}

-- a try to send: a blank handle stays blank and has the code Blank
abbrev pub Sends : Option End → Option End → List ℕ → Bool → Code → Type 0
Sends None new message flush code = (new ≡ None) × (code ≡ Blank)
Sends (Some old) new message flush code = (e : End) × (new ≡ Some e) × EndSends old e message flush code

-- a try to send whole
abbrev pub SendsWhole : Option End → Option End → List ℕ → Bool → Code → Type 0
SendsWhole None new message flush code = (new ≡ None) × (code ≡ Blank)
SendsWhole (Some old) new message flush code = (e : End) × (new ≡ Some e) × EndSendsWhole old e message flush code

-- a flush
abbrev pub Flushes : Option End → Option End → Code → Type 0
Flushes None new code = (new ≡ None) × (code ≡ Blank)
Flushes (Some old) new code = (e : End) × (new ≡ Some e) × EndFlushes old e code

-- a try to receive
abbrev pub Receives : Option End → Option End → List ℕ → List ℕ → Code → ℕ → Type 0
Receives None new before after code n = (new ≡ None) × (code ≡ Blank) × HasNothing before after n
Receives (Some old) new before after code n = (e : End) × (new ≡ Some e) × EndReceives old e before after code n

-- a side leaves and stays
abbrev pub Leaves : Option End → Option End → Code → Type 0
Leaves None new code = (new ≡ None) × (code ≡ Blank)
Leaves (Some old) new code = (e : End) × (new ≡ Some e) × EndLeaves old e code

-- a side that has left goes, and the handle is blank
abbrev pub Closes : Option End → Option End → Code → Type 0
Closes None new code = (new ≡ None) × (code ≡ Blank)
Closes (Some old) new Done = (has_left old ≡ true) × (new ≡ None)
Closes (Some old) new StillIn = (has_left old ≡ false) × (new ≡ Some old)
Closes (Some old) new code = ⊥

-- the two handles of a new queue
abbrev pub Opens : ℕ → ℕ → Option End → Option End → Option End → Option End → Code → Type 0
Opens words max tx rx tx' rx' Done = (tx ≡ None) × (rx ≡ None) × ((o : Outgoing) × (q : Incoming) × (tx' ≡ Some (Out o)) × (rx' ≡ Some (In q)) × IsQueue words max o q)
Opens words max tx rx tx' rx' InUse = (IsSome tx ⊎ IsSome rx) × (tx' ≡ tx) × (rx' ≡ rx)
Opens words max tx rx tx' rx' code = IsRefused words max code × (tx ≡ None) × (rx ≡ None) × (tx' ≡ None) × (rx' ≡ None)
