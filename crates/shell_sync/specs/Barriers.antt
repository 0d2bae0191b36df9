-- The commands over barriers: what each is answered, and what it does. This page goes with the table "Barriers" of
-- docs/SHELL.md.
use Rattle.std.specs.Prelude.{◌≡◌, ◌≢◌, ◌⊎◌, ℕ, ◌++◌, ◌<◌, ◌≤◌, true, false, List, codes, decimal, Option, Some, None}
use mathlib.Core.Option.{some}
use lib.ListN.{get_elem?}
use Rattle.lock_book.specs.History.{last_of}
use Rattle.par_barrier.specs.Legal.{BarrierLegal}
use Rattle.par_barrier.specs.Parties.{nobody}
use Rattle.par_barrier.specs.Shown.{AreAll, History, callers_of, history_of}
use Rattle.par_barrier.specs.declared.barrier.BarrierPass.{BarrierPass}
use Rattle.par_barrier.specs.declared.history.BarrierCall.{BarrierCall}
use Rattle.par_barrier.specs.declared.history.BarrierCall.TheVariants as verb
use Rattle.par_barrier.specs.declared.history.BarrierReply.{BarrierReply}
use Rattle.par_barrier.specs.declared.history.BarrierReply.TheVariants as reply
use Rattle.par_barrier.specs.declared.history.BarrierState.{BarrierState}
use Rattle.shell_lines.specs.BarrierRequests.{BarrierRequest, New, Call}
use Rattle.shell_lines.specs.declared.barriers.PartyCall.{PartyCall}
use Rattle.shell_lines.specs.declared.barriers.PartyCall.TheVariants as party
use Rattle.shell_memory.specs.Names.{IsFree, Puts, Stays, under}
use Rattle.shell_sync.specs.declared.barriers.Barriers.{Barriers}
use Rattle.shell_sync.specs.declared.barriers.Party.{Party}
use Rattle.shell_sync.specs.declared.barriers.PartyAnswer.{PartyAnswer}
use Rattle.shell_sync.specs.declared.barriers.PartyAnswer.TheVariants as answer

-- the call of a barrier that a party makes
abbrev pub call_of : PartyCall → BarrierCall
call_of party.Attach = verb.Attach
call_of party.Arrive = verb.Arrive
call_of party.Look = verb.Look
call_of party.Detach = verb.Detach

-- the line of an answer
abbrev pub text_of : PartyAnswer → List ℕ
text_of answer.Named = codes "named"
text_of answer.NoName = codes "noname"
text_of answer.Range = codes "range"
text_of answer.Done = codes "ok"
text_of answer.There = codes "there"
text_of (answer.Phase phase) = codes "phase " ++ decimal phase
text_of answer.Absent = codes "absent"
text_of answer.Twice = codes "twice"
text_of answer.Waits = codes "wait"
text_of (answer.Elected phase) = codes "elected " ++ decimal phase
text_of (answer.Released phase) = codes "released " ++ decimal phase
text_of (answer.Left phase) = codes "left " ++ decimal phase
text_of (answer.Last phase) = codes "last " ++ decimal phase

-- the answer that a barrier's reply stands for
abbrev pub answer_of : BarrierReply → PartyAnswer
answer_of (reply.Attached phase) = answer.Phase phase
answer_of reply.Waiting = answer.Waits
answer_of (reply.Released phase true) = answer.Elected phase
answer_of (reply.Released phase false) = answer.Released phase
answer_of (reply.Left phase true) = answer.Last phase
answer_of (reply.Left phase false) = answer.Left phase
answer_of (reply.AlreadyIn phase) = answer.There
answer_of (reply.NotIn phase) = answer.Absent
answer_of (reply.Twice phase) = answer.Twice

-- each pass has seen this history
abbrev pub HasSeen : List BarrierPass → History → Type 0
HasSeen passes seen = (k : ℕ) (p : BarrierPass) → get_elem? passes k ≡ some p → history_of p ≡ seen

-- the passes are those of all callers, and each has seen all that was done: the state is the one after that
pub record IsParty (p : Party) (state : BarrierState) : Type 0 where
  pub all : AreAll p.barrier p.passes.items
  pub seen : (seen : History) × HasSeen p.passes.items seen × (state ≡ last_of nobody seen)

-- the barrier of a name
abbrev pub party_of : Barriers → List ℕ → Option Party
party_of b name = under b.named name

-- each barrier has a state
abbrev pub AreBarriers : Barriers → Type 0
AreBarriers b = (name : List ℕ) (p : Party) → party_of b name ≡ Some p → (state : BarrierState) × IsParty p state

-- barriers b become b'
module _ (b b' : Barriers) where
  -- `bar new B CALLERS`
  abbrev pub Makes : List ℕ → ℕ → PartyAnswer → Type 0
  Makes name callers answer.Named = (under b.named name ≢ None) × Stays b.named b'.named
  Makes name callers answer.Done = IsFree b.named name × ((p : Party) × (callers_of p.barrier ≡ callers) × IsParty p nobody × Puts b.named b'.named name (Some p))
  Makes name callers other = ⊥

  -- the barrier of this name has no such caller, and nothing changes; or the caller's call leads from its state to
  -- another
  pub record IsCalled (name : List ℕ) (caller : ℕ) (call : BarrierCall) (a : PartyAnswer) : Type 0 where
    pub before : Party
    pub there : under b.named name ≡ Some before
    pub out : callers_of before.barrier ≤ caller → (a ≡ answer.Range) × Stays b.named b'.named
    pub in_range : caller < callers_of before.barrier → (after : Party) × (s t : BarrierState) × (r : BarrierReply) × (after.barrier ≡ before.barrier) × IsParty before s × IsParty after t
        × BarrierLegal caller s call r t × (a ≡ answer_of r) × Puts b.named b'.named name (Some after)

  -- what a request is answered, and what it does
  abbrev pub Answers : BarrierRequest → PartyAnswer → Type 0
  Answers (New name callers) a = Makes name callers a
  Answers (Call name caller call) a = (IsFree b.named name × (a ≡ answer.NoName) × Stays b.named b'.named) ⊎ IsCalled name caller (call_of call) a

  -- the line that a request is answered
  pub record IsAnswered (request : BarrierRequest) (line : List ℕ) : Type 0 where
    pub answer : PartyAnswer
    pub text : line ≡ text_of answer
    pub does : Answers request answer
