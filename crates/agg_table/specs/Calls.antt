-- What a participant made of some groups: the calls of the table that it made, and those that found no room.
use Rattle.std.specs.Prelude.{◌≡◌, ◌≤◌, ◌+◌, ◌++◌, ◌==◌, ◌⊎◌, ℕ, List, [], ◌∷◌, All, Any, filter, length, map}
use Rattle.std.specs.List.Sorted.{IsPermutation}
use Rattle.dshash_core.specs.Cells.{partition_of}
use Rattle.dshash_core.specs.Key.{hash_of, packed_key}
use Rattle.dshash_parts.specs.Done as done
use Rattle.dshash_parts.specs.Done.{HaveCauses, IsMissing, IsTurnedAway, PageEntry, lacks}
use Rattle.dshash_parts.specs.States.{PartitionState}
use Rattle.dshash_parts.specs.declared.histories.PartitionCalls.{PartitionCalls}
use Rattle.dshash_parts.specs.declared.histories.PartitionReplies.{PartitionReplies}
use Rattle.lock_book.specs.declared.view.Entry.{Entry}
use Rattle.par_model.specs.declared.state.AggState.{AggState}
use Rattle.rel_pointer.specs.Bytes.{AllBytes}

-- a key and the partial aggregates of some of its rows
abbrev pub Group : Type 0
Group = List ℕ × AggState

-- a call at a partition, and a reply
abbrev pub AggCall : Type 0
AggCall = PartitionCalls AggState

abbrev pub AggReply : Type 0
AggReply = PartitionReplies AggState (Unit {0})

-- an entry in the history of a partition
abbrev pub AggEntry : Type 0
AggEntry = Entry (PartitionState AggState) AggCall AggReply

-- what a participant did with the table: its own turns at each partition, and its own calls at the pages of the area
pub record Use : Type 0 where
  pub turns : ℕ → List AggEntry
  pub pages : List PageEntry

-- ---- entries

-- a call that was made: its key, and the state that was called
abbrev pub made_call : List ℕ → AggState → Unit {0} → Group
made_call key state reply = (key, state)

-- the call of an entry, if it was made
abbrev pub done_of : AggCall → AggReply → List Group
done_of call reply = done.done_of made_call call reply

-- the calls that were made, in order
abbrev pub done_in : List AggEntry → List Group
done_in entries = done.done_in made_call entries

-- ---- groups

-- a group as a call: under the words of its key
abbrev pub called : Group → Group
called g = (packed_key g.0, g.1)

-- the partition of a group
abbrev pub partition_at : Group → ℕ
partition_at g = partition_of (hash_of (packed_key g.0))

-- the calls of some groups that belong to a partition
abbrev pub calls_at : ℕ → List Group → List Group
calls_at number groups = map called (filter (λ (g : Group). partition_at g == number) groups)

-- some entry has the call of this group, which was not made
abbrev pub WasMissed : (ℕ → List AggEntry) → Group → Type 0
WasMissed turns g = Any (λ (e : AggEntry). IsMissing (packed_key g.0) g.1 e.call e.reply) (turns (partition_at g))

-- a chain with this many items takes no new key
abbrev pub longest_chain : ℕ
longest_chain = 64

-- some entry has the call of this group, which was turned away for its key's chain
abbrev pub WasTurnedAway : (ℕ → List AggEntry) → Group → Type 0
WasTurnedAway turns g = Any (λ (e : AggEntry). IsTurnedAway longest_chain (packed_key g.0) g.1 e.call e.reply) (turns (partition_at g))

-- a group whose key can be packed
pub record IsKeyed (g : Group) : Type 0 where
  pub bytes : AllBytes g.0
  pub short : length g.0 ≤ 248

-- one group more was put in: its call was made, and no other
pub record IsPut (u v : Use) (g : Group) : Type 0 where
  pub keyed : IsKeyed g
  pub done : (number : ℕ) → done_in (v.turns number) ≡ done_in (u.turns number) ++ calls_at number (g ∷ [])
  pub kept : (number : ℕ) → (more : List AggEntry) × (v.turns number ≡ u.turns number ++ more)
  pub refused : lacks u.pages ≤ lacks v.pages

-- one group was left: no call was made, an entry says that this one was not, and a request for pages was refused or the
-- group's chain was too long
pub record IsLeft (u v : Use) (g : Group) : Type 0 where
  pub done : (number : ℕ) → done_in (v.turns number) ≡ done_in (u.turns number)
  pub kept : (number : ℕ) → (more : List AggEntry) × (v.turns number ≡ u.turns number ++ more)
  pub missed : WasMissed v.turns g
  pub refused : lacks u.pages ≤ lacks v.pages
  pub cause : (lacks u.pages + 1 ≤ lacks v.pages) ⊎ WasTurnedAway v.turns g

-- What a participant did with some groups. Each of them was put in or left. At each partition its calls that were made
-- are those of the groups that it put in, in order, and no others. Of those that it left the calls were not made, and
-- for each of them a request for pages was refused, or its chain was too long
pub record HasPut (groups : List Group) (u : Use) (put left : List Group) : Type 0 where
  pub all : IsPermutation groups (put ++ left)
  pub keyed : All IsKeyed put
  pub done : (number : ℕ) → done_in (u.turns number) ≡ calls_at number put
  pub missed : All (WasMissed u.turns) left
  pub causes : HaveCauses (WasTurnedAway u.turns) left (lacks u.pages)
