-- What a call does to an end of either kind.
use Rattle.std.specs.Prelude.{◌≡◌, ℕ, List}
use Rattle.logbook.specs.Pages.{Book}
use Rattle.placed_queue.specs.Sides.{Side}
use Rattle.placed_queue.specs.Calls.{Sends, Finishes, Receives, HasNothing}
use Rattle.placed_queue.specs.declared.sender.SendAnswer.{SendAnswer}
use Rattle.placed_queue.specs.declared.sender.SendAnswer.TheVariants.{Sent, WouldBlock as Full, Overtaken as Late, TooLong as Long, Gone as Left}
use Rattle.placed_queue.specs.declared.receiver.ReceiveAnswer.{ReceiveAnswer}
use Rattle.placed_queue.specs.declared.receiver.ReceiveAnswer.TheVariants.{Received, WouldBlock as Empty, Detached as Over, ShortBuffer as Short, OutOfOrder as Strange}
use Rattle.c_placed.specs.declared.code.Code.{Code}
use Rattle.c_placed.specs.declared.code.Code.TheVariants.{Done, WouldBlock, Detached, Overtaken, OtherKind, TooLong, Gone, ShortBuffer, OutOfOrder}
use Rattle.c_placed.specs.declared.end.End.{End}
use Rattle.c_placed.specs.declared.end.End.TheVariants.{Sends as Out, Receives as In}

-- what an end knows, and of which queue it is
abbrev pub side_of : End → Side
side_of (Out s) = s
side_of (In s) = s

abbrev pub queue_of : End → Book
queue_of e = (side_of e).queue

abbrev pub code_of_send : SendAnswer → Code
code_of_send Sent = Done
code_of_send Full = WouldBlock
code_of_send Late = Overtaken
code_of_send Long = TooLong
code_of_send Left = Gone

abbrev pub code_of_receive : ReceiveAnswer → Code
code_of_receive Received = Done
code_of_receive Empty = WouldBlock
code_of_receive Over = Detached
code_of_receive Short = ShortBuffer
code_of_receive Strange = OutOfOrder

-- only an end that sends sends, and the code says what the answer says
abbrev pub EndSends : End → End → List ℕ → Code → Type 0
EndSends (Out old) new message code = (s : Side) × (a : SendAnswer) × (new ≡ Out s) × (code ≡ code_of_send a) × Sends old s message a
EndSends (In old) new message code = (new ≡ In old) × (code ≡ OtherKind)

-- only such an end leaves
abbrev pub EndFinishes : End → End → Code → Type 0
EndFinishes (Out old) new code = (s : Side) × (a : SendAnswer) × (new ≡ Out s) × (code ≡ code_of_send a) × Finishes old s a
EndFinishes (In old) new code = (new ≡ In old) × (code ≡ OtherKind)

-- only the end that receives receives
abbrev pub EndReceives : End → End → List ℕ → List ℕ → Code → ℕ → Type 0
EndReceives (Out old) new before after code n = (new ≡ Out old) × (code ≡ OtherKind) × HasNothing before after n
EndReceives (In old) new before after code n = (s : Side) × (a : ReceiveAnswer) × (new ≡ In s) × (code ≡ code_of_receive a) × Receives old s before after a n
