-- What a call does to a side of either kind.
use Rattle.std.specs.Prelude.{◌≡◌, ℕ, Bool, List}
use Rattle.mq_handle.specs.Receives.{Incoming}
use Rattle.c_queue.specs.Sides.{Outgoing}
use Rattle.c_queue.specs.Sends.{Sends, SendsWhole, Flushes, Leaves}
use Rattle.c_queue.specs.Receives.{Receives, HasNothing, StopsReceiving}
use Rattle.c_queue.specs.declared.code.Code.{Code}
use Rattle.c_queue.specs.declared.code.Code.TheVariants.{OtherKind}
use Rattle.c_queue.specs.declared.end.End.{End}
use Rattle.c_queue.specs.declared.end.End.TheVariants.{Sends as Out, Receives as In}

-- only the side that sends sends
abbrev pub EndSends : End → End → List ℕ → Bool → Code → Type 0
EndSends (Out old) new message flush code = (o : Outgoing) × (new ≡ Out o) × Sends old o message flush code
EndSends (In old) new message flush code = (new ≡ In old) × (code ≡ OtherKind)

-- whole or not at all, too
abbrev pub EndSendsWhole : End → End → List ℕ → Bool → Code → Type 0
EndSendsWhole (Out old) new message flush code = (o : Outgoing) × (new ≡ Out o) × SendsWhole old o message flush code
EndSendsWhole (In old) new message flush code = (new ≡ In old) × (code ≡ OtherKind)

-- and publishes
abbrev pub EndFlushes : End → End → Code → Type 0
EndFlushes (Out old) new code = (o : Outgoing) × (new ≡ Out o) × Flushes old o code
EndFlushes (In old) new code = (new ≡ In old) × (code ≡ OtherKind)

-- only the side that receives receives
abbrev pub EndReceives : End → End → List ℕ → List ℕ → Code → ℕ → Type 0
EndReceives (Out old) new before after code n = (new ≡ Out old) × (code ≡ OtherKind) × HasNothing before after n
EndReceives (In old) new before after code n = (q : Incoming) × (new ≡ In q) × Receives old q before after code n

-- whether a side has left
abbrev pub has_left : End → Bool
has_left (Out o) = o.sender.end.gone
has_left (In q) = q.end.gone

-- either leaves
abbrev pub EndLeaves : End → End → Code → Type 0
EndLeaves (Out old) new code = (o : Outgoing) × (new ≡ Out o) × Leaves old o code
EndLeaves (In old) new code = (q : Incoming) × (new ≡ In q) × StopsReceiving old q code
