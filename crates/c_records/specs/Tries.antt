-- What a call of a caller does: its share s becomes t.
use Rattle.std.specs.Prelude.{◌≡◌, ℕ, ◌+◌, ◌*◌, ◌/◌, ◌<◌, ◌≤◌, ◌⊎◌, ◌&&◌, not, Bool, false, [], ◌∷◌, Option, Result, Ok, Err}
use Rattle.std.specs.FinMap as fin
use Rattle.lock_book.specs.Shown.{Missed, number_of, seen_of}
use Rattle.dshash_core.specs.Cells.{buckets_of}
use Rattle.dshash_parts.specs.Promises.{IsLastCall, one_if}
use Rattle.dshash_parts.specs.Tables.{Turned, map_at}
use Rattle.dshash_parts.specs.declared.histories.PartitionCalls.TheVariants.{Call, Moves}
use Rattle.dshash_parts.specs.declared.histories.PartitionReplies.TheVariants.{HasToGrow, LacksItem, Made, Moved}
use Rattle.c_records.specs.Shares.{words_of}
use Rattle.c_table.specs.Tries.{home_of}
use Rattle.c_records.specs.Values.{after, stepped}
use Rattle.c_table.specs.declared.code.Code.{Code}
use Rattle.c_table.specs.declared.code.Code.TheVariants.{WouldBlock, Grown, NoMemory, NoSpace}
use Rattle.c_records.specs.declared.shared.Share.{Share}
use Rattle.c_records.specs.declared.value.Record.{Record}
use Rattle.c_records.specs.declared.value.RecordCall.{RecordCall}

-- the same table and the same caller
pub record Stays (s t : Share) : Type 0 where
  pub table : t.shared ≡ s.shared
  pub caller : number_of t.pass ≡ number_of s.pass

module _ (s t : Share) (key : ℕ) (call : RecordCall) where
  -- The call was made, with this reply: it is the last of its key's partition, and what it leaves is there now. The
  -- caller has 20 words fewer if its item went in with a new key, and 20 more if a key's item came out
  pub record IsMade (before : Option Record) : Type 0 where
    pub event : (spare unused freed : Bool) × Turned stepped s.pass t.pass (home_of key) (Call (key ∷ []) call spare) (Made before unused freed) × (words_of t + 20 * one_if (spare && not unused) ≡ words_of s + 20 * one_if freed)
    pub last : IsLastCall (number_of s.pass) (key ∷ []) call before (seen_of t.pass (home_of key))
    pub stands : fin.get (map_at (seen_of t.pass) (home_of key)) (key ∷ []) ≡ after before call

  -- the call would put a new key in, and found the partition full, of this size
  abbrev pub FindsFull : ℕ → Type 0
  FindsFull size = (spare back : Bool) × Turned stepped s.pass t.pass (home_of key) (Call (key ∷ []) call spare) (HasToGrow size back) × (words_of t ≡ words_of s)

  -- the call would put a new key in, and had no item
  abbrev pub LacksAnItem : Type 0
  LacksAnItem = Turned stepped s.pass t.pass (home_of key) (Call (key ∷ []) call false) LacksItem

-- The partition of a key was to grow to this size: another caller had it; it has grown, or had that size already, and
-- the caller has the words of the slice that is left over for those of the one that it brought; or the words that it
-- has not cut yet are too few for a slice
abbrev pub Grows : Share → Share → ℕ → ℕ → Code → Type 0
Grows s t key size WouldBlock = Missed s.pass t.pass × (words_of t ≡ words_of s)
Grows s t key size Grown = (left slice : ℕ) × Turned stepped s.pass t.pass (home_of key) (Moves size) (Moved left) × (buckets_of size ≤ slice) × (words_of t + slice ≡ words_of s + left / 8)
Grows s t key size NoSpace = (t.pass ≡ s.pass) × (words_of t ≡ words_of s) × (s.reserve.left < buckets_of size)
Grows s t key size code = ⊥

-- What a try of a call of a key came to. It was made; or another caller had the partition; or there is no memory for
-- the places of what the caller keeps; or the caller has no item, and the words that it has not cut yet are too few for
-- one; or the call found the partition full and it was to grow. No words are lost
abbrev pub Tries : Share → Share → ℕ → RecordCall → Result (Option Record) Code → Type 0
Tries s t key call (Ok before) = Stays s t × IsMade s t key call before
Tries s t key call (Err code) = Stays s t × (
    ((code ≡ WouldBlock) × Missed s.pass t.pass × (words_of t ≡ words_of s))
    ⊎ ((code ≡ NoMemory) × (t.pass ≡ s.pass) × (words_of t ≡ words_of s))
    ⊎ ((code ≡ NoSpace) × LacksAnItem s t key call × (words_of t ≡ words_of s) × (s.items.items ≡ []) × (s.reserve.left < 20))
    ⊎ ((u : Share) × (size : ℕ) × FindsFull s u key call size × Grows u t key (size + 1) code))
