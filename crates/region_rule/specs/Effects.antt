-- What a step does to the tokens, without a word of how.
use Rattle.std.specs.Prelude.{◌≡◌, ◌≢◌, ℕ, length, Option}
use lib.ListN.{get_elem?}
use Rattle.ring_rule.specs.Ring.{Sending, Receiving}
use Rattle.region_rule.specs.View.{View, Sender, Receiver, Spent}
use Rattle.region_rule.specs.Sound.{World, Sees}

-- only token i has another view: u before, v after
pub record Turns (before after : World) (i : ℕ) (u v : View) : Type 0 where
  pub was : Sees before i u
  pub now : Sees after i v
  pub others : (j : ℕ) → j ≢ i → get_elem? after.views j ≡ get_elem? before.views j

-- and a new token, the last one, which has its own view
pub record Cuts (before after : World) (i : ℕ) (u v new : View) : Type 0 where
  pub was : Sees before i u
  pub now : Sees after i v
  pub fresh : Sees after (length before.views) new
  pub others : (j : ℕ) → j ≢ i → j ≢ length before.views → get_elem? after.views j ≡ get_elem? before.views j

-- token i takes in token j, which is spent
pub record Joins (before after : World) (i j : ℕ) (u x v : View) : Type 0 where
  pub was : Sees before i u
  pub other : Sees before j x
  pub now : Sees after i v
  pub spent : Sees after j Spent
  pub others : (k : ℕ) → k ≢ i → k ≢ j → get_elem? after.views k ≡ get_elem? before.views k

-- no word changes
abbrev pub WordsStay : World → World → Type 0
WordsStay before after = after.words ≡ before.words

-- token i is a sender whose end goes from s to r. What it learnt of the other end stays
abbrev pub SenderTurns : World → World → ℕ → Sending → Sending → Type 0
SenderTurns before after i s r = (told : Option Receiving) × Turns before after i (Sender s told) (Sender r told)

-- token i is a receiver whose end goes from q to r
abbrev pub ReceiverTurns : World → World → ℕ → Receiving → Receiving → Type 0
ReceiverTurns before after i q r = (told : Option Sending) × Turns before after i (Receiver q told) (Receiver r told)

-- q is the receiver's end of the sender's ring
abbrev pub ReceivesFrom : World → Sending → Receiving → Type 0
ReceivesFrom w s q = (j : ℕ) × (told : Option Sending) × Sees w j (Receiver q told) × (s.ring ≡ q.ring)

-- s is the sender's end of the receiver's ring
abbrev pub SendsTo : World → Receiving → Sending → Type 0
SendsTo w q s = (j : ℕ) × (told : Option Receiving) × Sees w j (Sender s told) × (s.ring ≡ q.ring)
