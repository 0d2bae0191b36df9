-- What a call at a whole partition does: the caller's share s becomes t.
use Rattle.std.specs.Prelude.{◌≡◌, ℕ, ◌<◌, ◌≤◌, ◌⊎◌, List, Some, None, Result, Ok, Err, length, map}
use Rattle.std.specs.List.{All}
use Rattle.std.specs.FinMap as fin
use Rattle.lock_book.specs.Shown.{Missed, number_of, seen_of}
use Rattle.dshash_core.specs.Outcome.{ListsAll}
use Rattle.dshash_parts.specs.Tables.{Turned, map_at}
use Rattle.dshash_parts.specs.declared.histories.PartitionCalls.TheVariants as call
use Rattle.dshash_parts.specs.declared.histories.PartitionReplies.TheVariants.{HasSize, Listed}
use Rattle.c_table.specs.Looks.{Begins, IsEntryOf, keys_of}
use Rattle.c_records.specs.Values.{stepped}
use Rattle.c_table.specs.declared.code.Code.{Code}
use Rattle.c_table.specs.declared.code.Code.TheVariants.{BadSize, Done, NoMemory, ShortBuffer, WouldBlock}
use Rattle.c_records.specs.declared.shared.Share.{Share}
use Rattle.c_records.specs.declared.value.Record.{Record}

-- the same caller with the same words: only its pass may have seen more
pub record OnlySees (s t : Share) : Type 0 where
  pub rest : t ≡ record s { pass = t.pass }
  pub caller : number_of t.pass ≡ number_of s.pass

-- How many keys a partition has, by one look, which is the last event of its history that the caller knows; or another
-- caller had the partition; or there is none of this number
abbrev pub Counts : Share → Share → ℕ → Result ℕ Code → Type 0
Counts s t partition (Ok keys) = OnlySees s t × ((size : ℕ) × Turned stepped s.pass t.pass partition call.Looks (HasSize size keys)) × (keys ≡ fin.len (map_at (seen_of t.pass) partition))
Counts s t partition (Err WouldBlock) = OnlySees s t × Missed s.pass t.pass
Counts s t partition (Err BadSize) = (t ≡ s) × (128 ≤ partition)
Counts s t partition (Err code) = ⊥

-- the records under the keys of entries
abbrev pub records_under : List (List ℕ × Record) → List Record
records_under entries = map (λ e. e.1) entries

-- these keys and the records under them are written to two rows, and counted; or a row is shorter than they are
abbrev pub Writes : (found : List ℕ) (under : List Record) (keys : List ℕ) (records : List Record) (keys' : List ℕ) (records' : List Record) → Code → ℕ → Type 0
Writes found under keys records keys' records' Done n = (n ≡ length found) × Begins keys keys' found × Begins records records' under
Writes found under keys records keys' records' ShortBuffer n = (n ≡ length found) × ((length keys < n) ⊎ (length records < n)) × (keys' ≡ keys) × (records' ≡ records)
Writes found under keys records keys' records' code n = ⊥

-- nothing is written
abbrev pub HasNothing : (keys : List ℕ) (records : List Record) (keys' : List ℕ) (records' : List Record) → ℕ → Type 0
HasNothing keys records keys' records' n = (keys' ≡ keys) × (records' ≡ records) × (n ≡ 0)

-- The partition was listed, which is the last event of its history that the caller knows: the entries are those of its
-- map, each once
pub record IsListed (s t : Share) (partition : ℕ) (entries : List (List ℕ × Record)) : Type 0 where
  pub event : Turned stepped s.pass t.pass partition call.Lists (Listed (Some entries))
  pub all : ListsAll (map_at (seen_of t.pass) partition) entries
  pub keys : All (IsEntryOf partition) entries

-- A partition was listed, and its entries are written, or a row is too short for them; or there was no memory for them;
-- or another caller had the partition; or there is none of this number
abbrev pub Lists : Share → Share → ℕ → (keys : List ℕ) (records : List Record) (keys' : List ℕ) (records' : List Record) → Code → ℕ → Type 0
Lists s t partition keys records keys' records' WouldBlock n = OnlySees s t × Missed s.pass t.pass × HasNothing keys records keys' records' n
Lists s t partition keys records keys' records' NoMemory n = OnlySees s t × Turned stepped s.pass t.pass partition call.Lists (Listed None) × HasNothing keys records keys' records' n
Lists s t partition keys records keys' records' BadSize n = (t ≡ s) × (128 ≤ partition) × HasNothing keys records keys' records' n
Lists s t partition keys records keys' records' code n = OnlySees s t × ((entries : List (List ℕ × Record)) × IsListed s t partition entries × Writes (keys_of entries) (records_under entries) keys records keys' records' code n)
