-- What a call does to a handle or a site, by its code. A blank handle has None, and a blank site too.
use Rattle.std.specs.Prelude.{◌≡◌, ◌≢◌, ℕ, ◌+◌, ◌*◌, ◌^◌, ◌<◌, ◌≤◌, ◌⊎◌, Option, None, Some, IsSome}
use Rattle.atomic_table.specs.Seated.{TableId}
use Rattle.region_words.specs.Parts.{IsSized}
use Rattle.mq_ring.specs.Ends.{SendingEnd, ring_of}
use Rattle.mq_handle.specs.Held.{IsUnsent}
use Rattle.mq_handle.specs.Receives.{Incoming}
use Rattle.c_queue.specs.Sides.{Outgoing}
use Rattle.c_queue.specs.declared.code.Code.{Code}
use Rattle.c_queue.specs.declared.code.Code.TheVariants.{Done, WouldBlock, NoMemory, BadSize, InUse, Taken}
use Rattle.c_queue.specs.declared.end.End.{End}
use Rattle.c_queue.specs.declared.end.End.TheVariants.{Sends as Out, Receives as In}
use Rattle.c_given.specs.Which.{Which, IsSenderOf, IsInboxOf}

-- the head is that of this queue, and the words are those of its region
abbrev pub LiesAt : Option Which → Option (TableId × ℕ) → Which → Type 0
LiesAt site rows w = (site ≡ Some w) × (rows ≡ Some (w.region, w.region.words)) × IsSized w.region

-- rows of a region
abbrev pub IsRowsOf : Option (TableId × ℕ) → Type 0
IsRowsOf rows = (r : TableId) × (rows ≡ Some (r, r.words)) × IsSized r

-- a site and rows of one queue
abbrev pub IsPlaced : Option Which → Option (TableId × ℕ) → Type 0
IsPlaced site rows = (w : Which) × LiesAt site rows w

-- the words are no power of two up to 2^20, or a message may be longer than 2^20 bytes, or the head has less than 1,024
-- bytes. NoMemory: the process has none, or the words or the slots are fewer than the ring takes
abbrev pub IsRefused : ℕ → ℕ → ℕ → Code → Type 0
IsRefused size words max BadSize = (size < 1024) ⊎ ((2 ^ 20 < max) ⊎ ((e : ℕ) → e ≤ 20 → words ≢ 2 ^ e))
IsRefused size words max NoMemory = Unit {0}
IsRefused size words max code = ⊥

-- a queue over a ring of that many words, for messages of at most max bytes, was made in the memory; or none, and the
-- site and the rows are as they were
abbrev pub Opens : ℕ → ℕ → ℕ → Option Which → Option (TableId × ℕ) → Option Which → Option (TableId × ℕ) → Code → Type 0
Opens size words max site rows site' rows' Done = (w : Which) × LiesAt site' rows' w × (w.ring ≡ ring_of 1 words 0 max)
Opens size words max site rows site' rows' code = IsRefused size words max code × (site' ≡ site) × (rows' ≡ rows)

-- the side that sends to the site's queue, by which nothing was sent; or, with the handle as it was, no receiver has
-- come yet, somebody else has it, or there is no memory
abbrev pub OpensSender : Option Which → Option End → Option End → Code → Type 0
OpensSender site old new Done = (w : Which) × (o : Outgoing) × (site ≡ Some w) × (old ≡ None) × (new ≡ Some (Out o)) × IsSenderOf w o.sender × (o.begun ≡ None)
OpensSender site old new InUse = IsSome old × (new ≡ old)
OpensSender site old new WouldBlock = (old ≡ None) × (new ≡ None)
OpensSender site old new Taken = (old ≡ None) × (new ≡ None)
OpensSender site old new NoMemory = (old ≡ None) × (new ≡ None)
OpensSender site old new code = ⊥

-- the side that receives from the site's queue, by which nothing was received; or, with the handle as it was, somebody
-- else has it, or there is no memory
abbrev pub OpensReceiver : Option Which → Option End → Option End → Code → Type 0
OpensReceiver site old new Done = (w : Which) × (q : Incoming) × (site ≡ Some w) × (old ≡ None) × (new ≡ Some (In q)) × IsInboxOf w q
OpensReceiver site old new InUse = IsSome old × (new ≡ old)
OpensReceiver site old new Taken = (old ≡ None) × (new ≡ None)
OpensReceiver site old new NoMemory = (old ≡ None) × (new ≡ None)
OpensReceiver site old new code = ⊥
