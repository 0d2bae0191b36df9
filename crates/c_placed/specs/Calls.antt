-- What a call does to a handle, by its code. A blank handle has None, and a blank site too.
use Rattle.std.specs.Prelude.{◌≡◌, ℕ, ◌<◌, false, List, [], Option, None, Some, IsSome}
use Rattle.logbook.specs.Pages.{Book}
use Rattle.placed_queue.specs.Sides.{Side, side}
use Rattle.placed_queue.specs.Calls.{HasNothing}
use Rattle.c_placed.specs.Ends.{queue_of, EndSends, EndFinishes, EndReceives}
use Rattle.c_placed.specs.declared.code.Code.{Code}
use Rattle.c_placed.specs.declared.code.Code.TheVariants.{Done, Blank, NoMemory, BadSize, InUse, Taken}
use Rattle.c_placed.specs.declared.end.End.{End}
use Rattle.c_placed.specs.declared.end.End.TheVariants.{Sends as Out, Receives as In}

-- the site has a queue, and the handle, if it is not blank, an end of that one
abbrev pub IsAt : Option Book → Option End → Type 0
IsAt None h = ⊥
IsAt (Some q) None = Unit {0}
IsAt (Some q) (Some e) = queue_of e ≡ q

-- a queue was made in the memory; or it is smaller than 8,192 bytes
abbrev pub Opens : ℕ → Option Book → Option Book → Code → Type 0
Opens size old new Done = IsSome new
Opens size old new BadSize = (size < 8192) × (new ≡ old)
Opens size old new code = ⊥

-- an end that sends to the site's queue, and knows nothing yet
abbrev pub OpensSender : Option Book → Option End → Option End → Code → Type 0
OpensSender site old new Done = (q : Book) × (site ≡ Some q) × (old ≡ None) × (new ≡ Some (Out (side q [] false)))
OpensSender site old new InUse = IsSome old × (new ≡ old)
OpensSender site old new NoMemory = (old ≡ None) × (new ≡ None)
OpensSender site old new code = ⊥

-- the end that receives from the site's queue, which nobody else has then; or nobody gets it at this moment
abbrev pub OpensReceiver : Option Book → Option End → Option End → Code → Type 0
OpensReceiver site old new Done = (s : Side) × (site ≡ Some s.queue) × (old ≡ None) × (new ≡ Some (In s))
OpensReceiver site old new InUse = IsSome old × (new ≡ old)
OpensReceiver site old new NoMemory = (old ≡ None) × (new ≡ None)
OpensReceiver site old new Taken = (old ≡ None) × (new ≡ None)
OpensReceiver site old new code = ⊥

-- a send of a message: a blank handle stays blank and has the code Blank
abbrev pub Sends : Option End → Option End → List ℕ → Code → Type 0
Sends None new message code = (new ≡ None) × (code ≡ Blank)
Sends (Some old) new message code = (e : End) × (new ≡ Some e) × EndSends old e message code

-- a sender leaves
abbrev pub Finishes : Option End → Option End → Code → Type 0
Finishes None new code = (new ≡ None) × (code ≡ Blank)
Finishes (Some old) new code = (e : End) × (new ≡ Some e) × EndFinishes old e code

-- a receive
abbrev pub Receives : Option End → Option End → List ℕ → List ℕ → Code → ℕ → Type 0
Receives None new before after code n = (new ≡ None) × (code ≡ Blank) × HasNothing before after n
Receives (Some old) new before after code n = (e : End) × (new ≡ Some e) × EndReceives old e before after code n

-- the handle is blank again
abbrev pub Closes : Option End → Option End → Code → Type 0
Closes None new code = (new ≡ None) × (code ≡ Blank)
Closes (Some old) new code = (new ≡ None) × (code ≡ Done)
