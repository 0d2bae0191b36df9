-- What a call does to an end, by its answer.
use Rattle.std.specs.Prelude.{◌≡◌, ℕ, ◌<◌, Bool, true, false, List, [], ◌∷◌, ◌++◌, length}
use Rattle.placed_queue.specs.Rules.{IsLonger}
use Rattle.placed_queue.specs.Sides.{Side, side}
use Rattle.placed_queue.specs.Receives.{Has}
use Rattle.placed_queue.specs.declared.item.Item.{Item}
use Rattle.placed_queue.specs.declared.item.Item.TheVariants.{Message, End}
use Rattle.placed_queue.specs.declared.sender.SendAnswer.{SendAnswer}
use Rattle.placed_queue.specs.declared.sender.SendAnswer.TheVariants.{Sent, WouldBlock, Overtaken, TooLong, Gone}
use Rattle.placed_queue.specs.declared.receiver.ReceiveAnswer.{ReceiveAnswer}
use Rattle.placed_queue.specs.declared.receiver.ReceiveAnswer.TheVariants.{Received, WouldBlock as NoneThere, Detached, ShortBuffer, OutOfOrder}
use Rattle.placed_queue.specs.declared.receiver.Next.{Next}
use Rattle.placed_queue.specs.declared.receiver.Next.TheVariants.{Message as NextMessage, End as NextEnd, Nothing, Other}

-- nothing was added, since there is no room, and all is known; or others sent meanwhile, and the history is longer
abbrev pub IsBehind : Side → Side → SendAnswer → Type 0
IsBehind old new WouldBlock = new ≡ old
IsBehind old new Overtaken = (new ≡ side old.queue new.history old.over) × IsLonger old.history new.history
IsBehind old new answer = ⊥

-- the item was added right behind the history that was known; or nothing was added
abbrev pub Puts : Side → Side → Item → SendAnswer → Type 0
Puts old new item Sent = new ≡ side old.queue (old.history ++ item ∷ []) old.over
Puts old new item answer = IsBehind old new answer

-- a send of a message
abbrev pub Sends : Side → Side → List ℕ → SendAnswer → Type 0
Sends old new message TooLong = (240 < length message) × (new ≡ old)
Sends old new message Gone = (old.over ≡ true) × (new ≡ old)
Sends old new message answer = Puts old new (Message message) answer

-- the end is added, and this side has left
abbrev pub Finishes : Side → Side → SendAnswer → Type 0
Finishes old new Sent = new ≡ side old.queue (old.history ++ End ∷ []) true
Finishes old new Gone = (old.over ≡ true) × (new ≡ old)
Finishes old new TooLong = ⊥
Finishes old new answer = Puts old new End answer

-- what the next cell had: the next item, or nothing that counts
abbrev pub IsNext : Side → Side → Next → Type 0
IsNext old new (NextMessage m) = new ≡ side old.queue (old.history ++ Message m ∷ []) old.over
IsNext old new NextEnd = new ≡ side old.queue (old.history ++ End ∷ []) true
IsNext old new Nothing = new ≡ old
IsNext old new Other = new ≡ old

-- nothing was written
abbrev pub HasNothing : List ℕ → List ℕ → ℕ → Type 0
HasNothing before after n = (after ≡ before) × (n ≡ 0)

-- the sender's end was found now, or had been before
abbrev pub IsOver : Side → Side → Bool → Type 0
IsOver old new true = new ≡ old
IsOver old new false = new ≡ side old.queue (old.history ++ End ∷ []) true

-- a receive. Received: the history received is that before and the message that was written
abbrev pub Receives : Side → Side → List ℕ → List ℕ → ReceiveAnswer → ℕ → Type 0
Receives old new before after Received n = (m : List ℕ) × (new ≡ side old.queue (old.history ++ Message m ∷ []) old.over) × Has before after m n
Receives old new before after NoneThere n = (new ≡ old) × HasNothing before after n
Receives old new before after Detached n = IsOver old new old.over × HasNothing before after n
Receives old new before after ShortBuffer n = (n ≡ 240) × (length before < 240) × (new ≡ old) × (after ≡ before)
Receives old new before after OutOfOrder n = (new ≡ old) × HasNothing before after n
