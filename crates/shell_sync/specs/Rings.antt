-- The commands over rings: what each is answered, and what it does. This page goes with the table "Rings" of
-- docs/SHELL.md.
use Rattle.std.specs.Prelude.{◌≡◌, ◌≢◌, ◌⊎◌, ℕ, ◌+◌, ◌*◌, ◌++◌, Bool, true, false, not, List, [], length, codes, decimal, option_map, Option, Some, None, if◌then◌else◌, ◌==◌}
use Rattle.atomic_table.specs.Seated.{TableId}
use Rattle.dsa_area.specs.Requests.{IsGranted, IsRefused}
use Rattle.mq_handle.specs.Messages.{left_of}
use Rattle.mq_handle.specs.ReceiveAnswers.{Gives}
use Rattle.mq_handle.specs.SendAnswers.{Answers as SendAnswers}
use Rattle.mq_handle.specs.Sends.{Continues, StaysOpen}
use Rattle.mq_handle.specs.Told.{ReceiveFound, SendFound}
use Rattle.mq_handle.specs.declared.answers.ReceiveAnswer.{ReceiveAnswer}
use Rattle.mq_handle.specs.declared.answers.ReceiveAnswer.TheVariants as receive
use Rattle.mq_handle.specs.declared.answers.SendAnswer.{SendAnswer}
use Rattle.mq_handle.specs.declared.answers.SendAnswer.TheVariants as send
use Rattle.mq_ring.specs.Ends.{ring_of}
use Rattle.ring_rule.specs.Ends.{first_receiving, first_sending, publishes, receiver_leaves, sender_leaves}
use Rattle.ring_rule.specs.Ring.{AreEnds, Receiving, Sending}
use Rattle.shell_memory.specs.Names.{IsFree, Puts, Stays, under}
use Rattle.shell_lines.specs.RingRequests.{RingRequest, Ring, Send, Receive, DetachSender, DetachReceiver}
use Rattle.shell_memory.specs.declared.heap.Heap.{Heap}
use Rattle.shell_sync.specs.declared.rings.Queue.{Queue}
use Rattle.shell_sync.specs.declared.rings.RingAnswer.{RingAnswer}
use Rattle.shell_sync.specs.declared.rings.RingAnswer.TheVariants as answer
use Rattle.shell_sync.specs.declared.rings.Rings.{Rings}

-- the line of an answer that speaks of a message, if of any
abbrev pub text_of : RingAnswer → List ℕ → List ℕ
text_of answer.Named message = codes "named"
text_of answer.NoName message = codes "noname"
text_of answer.Closed message = codes "closed"
text_of answer.Pending message = codes "pending"
text_of (answer.TooLong len) message = codes "toolong " ++ decimal len
text_of answer.Detached message = codes "detached"
text_of answer.Sent message = codes "sent"
text_of (answer.Stored words) message = codes "again " ++ decimal words
text_of answer.Again message = codes "again"
text_of answer.Got message = codes "got " ++ (decimal (length message) ++ (if length message == 0 then [] else codes " " ++ message))
text_of answer.Done message = codes "ok"
text_of (answer.NoSpace pages largest) message = codes "nospace " ++ (decimal pages ++ (codes " " ++ decimal largest))

-- the state of a ring: what its two ends show, and the text of which a part is stored
pub record QueueState : Type 0 where
  pub sender : Sending
  pub receiver : Receiving
  pub torn : Option (List ℕ)

-- the state that the tokens of a ring show
abbrev pub state_of : Queue → QueueState
state_of q = record { sender = q.sender.end; receiver = q.receiver.end; torn = option_map (λ text. text.items) q.torn }

-- a text is kept exactly if words of a frame are stored, but not the whole: they are the first words of that text's
-- frame
abbrev pub IsTorn : Option (List ℕ) → List ℕ → Type 0
IsTorn None put = left_of put ≡ []
IsTorn (Some text) put = (left_of put ≢ []) × Continues put text

-- the text that is kept if this many words of its frame are stored
abbrev pub torn_by : ℕ → List ℕ → Option (List ℕ)
torn_by words text = if words == 0 then None else Some text

-- both ends are those of one ring of the region, and the shell knows which was detached
pub record IsQueue (region : TableId) (q : Queue) : Type 0 where
  pub sender : q.sender.region ≡ region
  pub receiver : q.receiver.region ≡ region
  pub one_ring : q.sender.end.ring ≡ q.receiver.end.ring
  pub sends : q.sends ≡ not q.sender.end.gone
  pub receives : q.receives ≡ not q.receiver.end.gone
  pub torn : IsTorn (state_of q).torn q.sender.end.put

-- the ring of a name
abbrev pub queue_of : Rings → List ℕ → Option Queue
queue_of rings name = under rings.named name

-- all rings are such
abbrev pub AreRings : TableId → Rings → Type 0
AreRings region rings = (name : List ℕ) (q : Queue) → queue_of rings name ≡ Some q → IsQueue region q

-- the sender was not detached, and no part of another text is stored
pub record MaySend (s : QueueState) (text : List ℕ) : Type 0 where
  pub is_open : s.sender.gone ≡ false
  pub free : (s.torn ≡ None) ⊎ (s.torn ≡ Some text)

-- a state s of a ring becomes t
module _ (s t : QueueState) where
  -- one try to send a text, by the steps of the queue; it finds what the receiver has set and given back
  pub record Tries (text : List ℕ) (flush : Bool) (answer : SendAnswer) : Type 0 where
    pub may : MaySend s text
    pub tries : SendAnswers s.sender t.sender text flush answer
    pub found : SendFound (Some s.receiver) s.sender t.sender answer
    pub other : t.receiver ≡ s.receiver

  -- `send Q TEXT`, and `post Q TEXT` if `flush` is false
  abbrev pub Sends : List ℕ → Bool → RingAnswer → Type 0
  Sends text flush answer.Closed = (s.sender.gone ≡ true) × (t ≡ s)
  Sends text flush answer.Pending = (s.sender.gone ≡ false) × ((other : List ℕ) × (s.torn ≡ Some other) × (other ≢ text)) × (t ≡ s)
  Sends text flush (answer.TooLong len) = Tries text flush (send.TooLong len) × (t ≡ s)
  Sends text flush answer.Detached = Tries text flush send.Detached × (s.receiver.gone ≡ true) × (t.torn ≡ s.torn)
  Sends text flush answer.Sent = Tries text flush send.Sent × (s.receiver.gone ≡ false) × (t.torn ≡ None)
  Sends text flush (answer.Stored words) = Tries text flush (send.WouldBlock words) × (s.receiver.gone ≡ false) × (t.torn ≡ torn_by words text)
  Sends text flush other = ⊥

  -- one try to receive, by the steps of the queue; it finds what the sender has set and published
  pub record TriesToReceive (message : List ℕ) (answer : ReceiveAnswer) : Type 0 where
    pub is_open : s.receiver.gone ≡ false
    pub tries : Gives s.receiver t.receiver message answer
    pub found : ReceiveFound (Some s.sender) s.receiver t.receiver answer
    pub sender : (t.sender ≡ s.sender) × (t.torn ≡ s.torn)

  -- `recv Q`
  abbrev pub Receives : RingAnswer → List ℕ → Type 0
  Receives answer.Closed message = (s.receiver.gone ≡ true) × (t ≡ s)
  Receives answer.Got message = TriesToReceive message receive.Message
  Receives answer.Again message = TriesToReceive message receive.WouldBlock × (s.sender.gone ≡ false)
  Receives answer.Detached message = TriesToReceive message receive.Detached × (s.sender.gone ≡ true)
  Receives other message = ⊥

  -- `detach Q sender`: all that was put is published, unless the sender was detached before
  pub record SenderLeaves : Type 0 where
    pub first : s.sender.gone ≡ false → t ≡ record s { sender = sender_leaves (publishes s.sender) }
    pub again : s.sender.gone ≡ true → t ≡ s

  -- `detach Q receiver`
  pub record ReceiverLeaves : Type 0 where
    pub first : s.receiver.gone ≡ false → t ≡ record s { receiver = receiver_leaves s.receiver }
    pub again : s.receiver.gone ≡ true → t ≡ s

-- what a try to send makes of a ring: only the sender's end changes, and it is known what holds of both ends
pub record IsSendTry (region : TableId) (q q' : Queue) (text : List ℕ) (flush : Bool) (answer : SendAnswer) : Type 0 where
  pub here : (q'.sender.region ≡ region) × (q'.receiver.region ≡ region)
  pub other : q'.receiver.end ≡ q.receiver.end
  pub flags : (q'.sends ≡ q.sends) × (q'.receives ≡ q.receives)
  pub torn : q'.torn ≡ q.torn
  pub stays : StaysOpen q.sender.end q'.sender.end
  pub tries : SendAnswers q.sender.end q'.sender.end text flush answer
  pub found : SendFound (Some q.receiver.end) q.sender.end q'.sender.end answer
  pub ends : AreEnds q'.sender.end q'.receiver.end

-- what a try to receive makes of a ring: only the receiver's end changes, and it is known what holds of both ends
pub record IsReceiveTry (region : TableId) (q q' : Queue) (answer : ReceiveAnswer) : Type 0 where
  pub here : (q'.sender.region ≡ region) × (q'.receiver.region ≡ region)
  pub other : q'.sender.end ≡ q.sender.end
  pub flags : (q'.sends ≡ q.sends) × (q'.receives ≡ q.receives)
  pub torn : q'.torn ≡ q.torn
  pub stays : q'.receiver.end.gone ≡ false
  pub tries : Gives q.receiver.end q'.receiver.end q'.receiver.message answer
  pub found : ReceiveFound (Some q.sender.end) q.receiver.end q'.receiver.end answer
  pub ends : AreEnds q'.sender.end q'.receiver.end

-- a new ring in a chunk at this word: both ends are as they begin, whatever the cells hold, and both counts begin at
-- `from`
pub record IsNew (at words from max : ℕ) (q : Queue) : Type 0 where
  pub sender : q.sender.end ≡ first_sending (ring_of at words from max) q.sender.end.cells
  pub receiver : q.receiver.end ≡ first_receiving (ring_of at words from max)
  pub torn : (state_of q).torn ≡ None

-- the ring of this name goes from one state to another by a step, and no other changes
abbrev pub At : Rings → Rings → List ℕ → (QueueState → QueueState → Type 0) → Type 0
At r r' name Step = (q q' : Queue) × (under r.named name ≡ Some q) × Puts r.named r'.named name (Some q') × Step (state_of q) (state_of q')

-- nothing has the name, and nothing changes
abbrev pub IsNoName : Rings → Rings → List ℕ → RingAnswer → Type 0
IsNoName r r' name a = IsFree r.named name × (a ≡ answer.NoName) × Stays r.named r'.named

-- a heap h and rings r become h' and r'
module _ (h h' : Heap) (r r' : Rings) where
  -- `ring Q WORDS FROM MAX`
  abbrev pub Makes : List ℕ → ℕ → ℕ → ℕ → RingAnswer → Type 0
  Makes name words from max answer.Named = (under r.named name ≢ None) × (h' ≡ h) × Stays r.named r'.named
  Makes name words from max answer.Done = IsFree r.named name × (h'.area ≡ h.area) × ((at : ℕ) × (q : Queue) × IsGranted h.area h.pass h'.pass (8 * (words + 3)) at × IsNew at words from max q × Puts r.named r'.named name (Some q))
  Makes name words from max (answer.NoSpace pages largest) = IsFree r.named name × (h'.area ≡ h.area) × IsRefused h.area h.pass h'.pass (8 * (words + 3)) pages largest × Stays r.named r'.named
  Makes name words from max other = ⊥

  -- what a request is answered, and what it does
  abbrev pub Answers : RingRequest → RingAnswer → List ℕ → Type 0
  Answers (Ring name words from max) a message = Makes name words from max a
  Answers (Send name text flush) a message = (h' ≡ h) × (IsNoName r r' name a ⊎ At r r' name (λ s t. Sends s t text flush a))
  Answers (Receive name) a message = (h' ≡ h) × (IsNoName r r' name a ⊎ At r r' name (λ s t. Receives s t a message))
  Answers (DetachSender name) a message = (h' ≡ h) × (IsNoName r r' name a ⊎ ((a ≡ answer.Done) × At r r' name SenderLeaves))
  Answers (DetachReceiver name) a message = (h' ≡ h) × (IsNoName r r' name a ⊎ ((a ≡ answer.Done) × At r r' name ReceiverLeaves))

  -- the line that a request is answered
  pub record IsAnswered (request : RingRequest) (line : List ℕ) : Type 0 where
    pub answer : RingAnswer
    pub message : List ℕ
    pub text : line ≡ text_of answer message
    pub does : Answers request answer message
