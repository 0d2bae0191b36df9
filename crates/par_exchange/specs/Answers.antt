-- What a contract sees of what a desk is asked and of what it answers.
use Rattle.std.specs.Prelude.{◌≡◌}
use Rattle.par_exchange.specs.declared.history.ExchangeCall.{ExchangeCall}
use Rattle.par_exchange.specs.declared.history.ExchangeCall.TheVariants as call
use Rattle.par_exchange.specs.declared.history.ExchangeReply.{ExchangeReply}
use Rattle.par_exchange.specs.declared.history.ExchangeReply.TheVariants as reply
use Rattle.par_exchange.specs.declared.asks.Wish.{Wish}
use Rattle.par_exchange.specs.declared.asks.Wish.TheVariants.{Bring, Give, Leave, Take}
use Rattle.par_exchange.specs.declared.asks.Answer.{Answer}
use Rattle.par_exchange.specs.declared.asks.Answer.TheVariants.{Waiting, Collected, Given, Taken, Nothing, Back, AllBack, Left, Leaving, Busy, Gone}

module _ {T : Type 0} where
  -- the call of a wish
  abbrev pub call_of : Wish T → ExchangeCall T
  call_of (Bring x) = call.Bring x
  call_of (Give v) = call.Give v.items
  call_of Take = call.Take
  call_of Leave = call.Leave

  -- the reply of an answer
  abbrev pub reply_of : Answer T → ExchangeReply T
  reply_of Waiting = reply.Waiting
  reply_of (Collected v) = reply.Collected v.items
  reply_of Given = reply.Given
  reply_of (Taken x) = reply.Taken x
  reply_of Nothing = reply.Nothing
  reply_of (Back x) = reply.Refused
  reply_of (AllBack v) = reply.Refused
  reply_of (Left last) = reply.Left last
  reply_of (Leaving v) = reply.Leaving v.items
  reply_of Busy = reply.Refused
  reply_of Gone = reply.Gone

  -- the answers that a wish may have at all: what is refused comes back as it was
  abbrev pub AnswerFits : Wish T → Answer T → Type 0
  AnswerFits (Bring x) Waiting = Unit {0}
  AnswerFits (Bring x) (Collected w) = Unit {0}
  AnswerFits (Bring x) (Back y) = y ≡ x
  AnswerFits (Bring x) Given = ⊥
  AnswerFits (Bring x) (Taken y) = ⊥
  AnswerFits (Bring x) Nothing = ⊥
  AnswerFits (Bring x) (AllBack w) = ⊥
  AnswerFits (Bring x) (Left last) = ⊥
  AnswerFits (Bring x) (Leaving w) = ⊥
  AnswerFits (Bring x) Busy = ⊥
  AnswerFits (Bring x) Gone = ⊥
  AnswerFits (Give v) Given = Unit {0}
  AnswerFits (Give v) (AllBack w) = w ≡ v
  AnswerFits (Give v) Waiting = ⊥
  AnswerFits (Give v) (Collected w) = ⊥
  AnswerFits (Give v) (Taken y) = ⊥
  AnswerFits (Give v) Nothing = ⊥
  AnswerFits (Give v) (Back y) = ⊥
  AnswerFits (Give v) (Left last) = ⊥
  AnswerFits (Give v) (Leaving w) = ⊥
  AnswerFits (Give v) Busy = ⊥
  AnswerFits (Give v) Gone = ⊥
  AnswerFits Take (Taken y) = Unit {0}
  AnswerFits Take Nothing = Unit {0}
  AnswerFits Take Waiting = ⊥
  AnswerFits Take (Collected w) = ⊥
  AnswerFits Take Given = ⊥
  AnswerFits Take (Back y) = ⊥
  AnswerFits Take (AllBack w) = ⊥
  AnswerFits Take (Left last) = ⊥
  AnswerFits Take (Leaving w) = ⊥
  AnswerFits Take Busy = ⊥
  AnswerFits Take Gone = ⊥
  AnswerFits Leave (Left last) = Unit {0}
  AnswerFits Leave (Leaving w) = Unit {0}
  AnswerFits Leave Busy = Unit {0}
  AnswerFits Leave Gone = Unit {0}
  AnswerFits Leave Waiting = ⊥
  AnswerFits Leave (Collected w) = ⊥
  AnswerFits Leave Given = ⊥
  AnswerFits Leave (Taken y) = ⊥
  AnswerFits Leave Nothing = ⊥
  AnswerFits Leave (Back y) = ⊥
  AnswerFits Leave (AllBack w) = ⊥
