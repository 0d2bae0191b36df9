-- What a look for room, and one for more words, finds.
use Rattle.std.specs.Prelude.{◌≡◌, ℕ, ◌+◌, ◌<◌, ◌≤◌, ◌⊎◌, Option, Some, None}
use Rattle.ring_rule.specs.Ring.{Sending, Receiving}
use Rattle.ring_rule.specs.Ends.{looks_read}
use Rattle.mq_handle.specs.Filling.{publishes_rest}
use Rattle.mq_handle.specs.Receives.{IsWaiting, IsOver}
use Rattle.mq_handle.specs.declared.answers.ReceiveAnswer.{ReceiveAnswer}
use Rattle.mq_handle.specs.declared.answers.ReceiveAnswer.TheVariants.{Message, WouldBlock, Detached}

-- the sender looks for room only if by what it knows fewer words fit than are wanted, and has published all before it
-- does
abbrev pub LooksForRoom : Sending → Sending → ℕ → ℕ → ℕ → Type 0
LooksForRoom old new wanted free unpublished = ((new ≡ old) × (wanted ≤ free)) ⊎ ((free < wanted) × (unpublished ≡ 0) × (new ≡ looks_read (publishes_rest old) new.room))

-- the receiver after a look: the words taken are the same, the ring too, and it stays open
pub record LooksOn (old new : Receiving) : Type 0 where
  pub ring : new.ring ≡ old.ring
  pub gone : new.gone ≡ old.gone
  pub taken : new.taken ≡ old.taken
  pub turn : old.turn ≤ new.turn
  pub steps : new.turn ≤ old.turn + 3
  pub flag : old.flag_value ≡ 1 → new.flag_value ≡ 1

-- more words, or why there are none
abbrev pub Finds : Receiving → Receiving → ℕ → Option ReceiveAnswer → Type 0
Finds old new ready None = (0 < ready) × LooksOn old new × (new.returned ≡ old.returned)
Finds old new ready (Some WouldBlock) = LooksOn old new × IsWaiting old new
Finds old new ready (Some Detached) = LooksOn old new × IsOver old new
Finds old new ready (Some Message) = ⊥
