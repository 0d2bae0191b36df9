-- Tickets: a caller that makes an entry pays one, and a caller that takes an entry out gets one.
use Rattle.std.specs.Prelude.{◌≡◌, ℕ, zero, suc, ◌+◌, List, [], ◌∷◌, Some, None}
use Rattle.lock_book.specs.declared.view.Entry.{Entry}
use Rattle.lock_book.specs.Folds.{folded}
use Rattle.lock_book.specs.Told.{Histories}
use Rattle.dsa_area.specs.declared.area.Area.{Area}
use Rattle.dsa_area.specs.declared.area.AreaPass.{AreaPass}
use Rattle.dshash_chunks.specs.declared.held.Held.{Held}
use Rattle.dshash_chunks.specs.declared.held.ChunkCalls.{ChunkCalls}
use Rattle.dshash_chunks.specs.declared.held.ChunkCalls.TheVariants.{Put, Take, With}
use Rattle.dshash_chunks.specs.declared.held.ChunkReplies.{ChunkReplies}
use Rattle.dshash_chunks.specs.declared.held.ChunkReplies.TheVariants.{Was, Did}
use Rattle.dshash_parts.specs.States.{PartitionState}
use Rattle.dshash_parts.specs.Traces.{Event, Turn, Asked, Sight, sight, Trace}
use Rattle.dshash_parts.specs.declared.histories.PartitionCalls.{PartitionCalls}
use Rattle.dshash_parts.specs.declared.histories.PartitionCalls.TheVariants.{Call}
use Rattle.dshash_parts.specs.declared.histories.PartitionReplies.{PartitionReplies}
use Rattle.dshash_parts.specs.declared.histories.PartitionReplies.TheVariants.{Made}
use Rattle.page_cache.specs.Pages.{stepped}
use Rattle.page_cache.specs.declared.page.Page.{Page}

-- what is called of a name of the cache, and what it replies
abbrev pub CacheCall : Type 0
CacheCall = ChunkCalls (Unit {0})

abbrev pub CacheReply : Type 0
CacheReply = ChunkReplies Page

-- what is called of a partition of the cache, what it replies, and an entry of its history
abbrev pub Asks : Type 0
Asks = PartitionCalls CacheCall

abbrev pub Answers : Type 0
Answers = PartitionReplies Held CacheReply

abbrev pub CacheEntry : Type 0
CacheEntry = Entry (PartitionState Held) Asks Answers

abbrev pub CacheHistories : Type 0
CacheHistories = Histories (PartitionState Held) Asks Answers

abbrev pub CacheEvent : Type 0
CacheEvent = Event Held CacheCall CacheReply

abbrev pub CacheSight : Type 0
CacheSight = Sight Held CacheCall CacheReply

-- a page was put under a name that had none: one entry was made
abbrev pub makes : CacheCall → CacheReply → ℕ
makes (Put h) (Was None) = 1
makes (Put h) (Was (Some old)) = 0
makes (Put h) (Did page) = 0
makes Take reply = 0
makes (With call) reply = 0

-- a page was evicted: one entry was taken out
abbrev pub takes : CacheCall → CacheReply → ℕ
takes Take (Was (Some h)) = 1
takes Take (Was None) = 0
takes Take (Did page) = 0
takes (Put h) reply = 0
takes (With call) reply = 0

-- of a turn at a partition what a call has that was made, and else none
abbrev pub of_turn : (CacheCall → CacheReply → ℕ) → Asks → Answers → ℕ
of_turn count (Call name call spare) (Made reply unused freed) = count call reply
of_turn count call reply = 0

-- of an event
abbrev pub of_event : (CacheCall → CacheReply → ℕ) → CacheEvent → ℕ
of_event count (Turn number call reply) = of_turn count call reply
of_event count (Asked request) = 0

-- A caller with `tickets` tickets has `left` after these events. Each entry that it makes is paid for, in turn: it
-- never has less than none
abbrev pub Pays : ℕ → List CacheEvent → ℕ → Type 0
Pays tickets [] left = left ≡ tickets
Pays tickets (e ∷ es) left = (now : ℕ) × (now + of_event makes e ≡ tickets + of_event takes e) × Pays now es left

-- what a caller has seen and done before its first event
abbrev pub nothing : AreaPass → CacheSight
nothing start = sight (λ _. []) (λ _. []) start

-- These are all events of the caller's life so far, in order. It began with its share of the tickets, and has paid for
-- each entry that it made
pub record HasPaid (a : Area) (caller share : ℕ) (now : CacheSight) (tickets : ℕ) : Type 0 where
  pub start : AreaPass
  pub life : List CacheEvent
  pub trace : Trace stepped a caller (nothing start) now life
  pub pays : Pays share life tickets

-- f of each number below n, added up
unfoldable pub sum_below : ℕ → (ℕ → ℕ) → ℕ
sum_below zero f = 0
sum_below (suc n) f = sum_below n f + f n

-- how many entries these histories of the partitions made, or took out
abbrev pub counted : (CacheCall → CacheReply → ℕ) → CacheHistories → ℕ
counted count histories = sum_below 128 (λ i. folded (λ a b. a + b) 0 (λ (e : CacheEntry). of_turn count e.call e.reply) (histories i))
