-- What a participant made of the rows of its blocks: the calls of the table that it made, and those that found no
-- room.
use Rattle.std.specs.Prelude.{◌≡◌, ◌<◌, ◌==◌, ◌++◌, ◌∷◌, ℕ, List, All, Any, filter, length, map}
use Rattle.std.specs.List.Sorted.{IsPermutation}
use Rattle.csv_rows.specs.Records.{field_of}
use Rattle.dshash_core.specs.Cells.{partition_of}
use Rattle.dshash_core.specs.Key.{hash_of}
use Rattle.dshash_parts.specs.Done as done
use Rattle.dshash_parts.specs.Done.{HaveCauses, IsMissing, IsTurnedAway, PageEntry, lacks}
use Rattle.dshash_parts.specs.States.{PartitionState}
use Rattle.dshash_parts.specs.declared.histories.PartitionCalls.{PartitionCalls}
use Rattle.dshash_parts.specs.declared.histories.PartitionReplies.{PartitionReplies}
use Rattle.row_blocks.specs.Blocks.{Table}
use Rattle.lock_book.specs.declared.view.Entry.{Entry}
use Rattle.rel_pointer.specs.Bytes.{packed_words}
use Rattle.join_pairs.specs.Join.{keyed}
use Rattle.join_pairs.specs.declared.chains.Link.{Link}
use Rattle.hash_join.specs.Widths.{field_words}

-- an entry in the history of a partition of the table of left rows
abbrev pub RowEntry : Type 0
RowEntry = Entry (PartitionState ℕ) (PartitionCalls ℕ) (PartitionReplies ℕ ℕ)

-- ---- entries

-- a call that was made: its key, and its row with the row before
abbrev pub made_call : List ℕ → ℕ → ℕ → List ℕ × Link
made_call key row before = (key, record { row = row; before = before })

-- the call that an entry is, if it was made
abbrev pub done_of : PartitionCalls ℕ → PartitionReplies ℕ ℕ → List (List ℕ × Link)
done_of call reply = done.done_of made_call call reply

-- the calls that were made, in order
abbrev pub done_in : List RowEntry → List (List ℕ × Link)
done_in entries = done.done_in made_call entries

-- ---- rows

-- a chain with this many items takes no new key
abbrev pub longest_chain : ℕ
longest_chain = 64

module _ (records : Table) (column : ℕ) where
  -- the key of a row in the table: the length of its field, and its bytes in as many words as the longest field takes
  abbrev pub key_of : ℕ → List ℕ
  key_of row = length (field_of records row column) ∷ packed_words (field_words records column) (field_of records row column)

  -- the partition of a row
  abbrev pub partition_at : ℕ → ℕ
  partition_at row = partition_of (hash_of (key_of row))

  -- the calls of some rows that belong to a partition
  abbrev pub calls_at : ℕ → List Link → List (List ℕ × Link)
  calls_at number links = map (λ (l : Link). (key_of l.row, l)) (filter (λ (l : Link). partition_at l.row == number) links)

  -- some calls have one of this row that was not made
  abbrev pub WasMissed : (ℕ → List RowEntry) → ℕ → Type 0
  WasMissed calls row = Any (λ (e : RowEntry). IsMissing (key_of row) row e.call e.reply) (calls (partition_at row))

  -- some calls have one of this row that was turned away for its key's chain
  abbrev pub WasTurnedAway : (ℕ → List RowEntry) → ℕ → Type 0
  WasTurnedAway calls row = Any (λ (e : RowEntry). IsTurnedAway longest_chain (key_of row) row e.call e.reply) (calls (partition_at row))

  -- What a participant did with some rows. Each of them whose field is not empty is in `links` or in `spilled`. At each
  -- partition its calls that were made are those of `links`, in order, each with the row's key and the row, and no
  -- others. Those of `spilled` were not made, and for each of them a request for pages was refused, or its chain was too
  -- long
  pub record HasPut (rows : List ℕ) (calls : ℕ → List RowEntry) (at_pages : List PageEntry) (links : List Link) (spilled : List ℕ) : Type 0 where
    pub all : IsPermutation (keyed records column rows) (map (λ (l : Link). l.row) links ++ spilled)
    pub done : (number : ℕ) → number < 128 → done_in (calls number) ≡ calls_at number links
    pub missed : All (WasMissed calls) spilled
    pub causes : HaveCauses (WasTurnedAway calls) spilled (lacks at_pages)
