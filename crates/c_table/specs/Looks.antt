-- What a call at a whole partition does: the caller's share s becomes t.
use Rattle.std.specs.Prelude.{◌≡◌, ℕ, ◌<◌, ◌≤◌, ◌⊎◌, List, Some, None, Result, Ok, Err, length, map, take, drop, slice_index}
use Rattle.std.specs.List.{All}
use Rattle.std.specs.FinMap as fin
use Rattle.lock_book.specs.Shown.{Missed, number_of, seen_of}
use Rattle.dshash_core.specs.Cells.{partition_of}
use Rattle.dshash_core.specs.Key.{hash_of}
use Rattle.dshash_core.specs.Outcome.{ListsAll}
use Rattle.dshash_parts.specs.Tables.{Turned, map_at}
use Rattle.dshash_parts.specs.declared.histories.PartitionCalls.TheVariants as call
use Rattle.dshash_parts.specs.declared.histories.PartitionReplies.TheVariants.{HasSize, Listed}
use Rattle.c_table.specs.Words.{stepped}
use Rattle.c_table.specs.declared.code.Code.{Code}
use Rattle.c_table.specs.declared.code.Code.TheVariants.{BadSize, Done, NoMemory, ShortBuffer, WouldBlock}
use Rattle.c_table.specs.declared.shared.Share.{Share}

-- the same caller with the same words: only its pass may have seen more
pub record OnlySees (s t : Share) : Type 0 where
  pub rest : t ≡ record s { pass = t.pass }
  pub caller : number_of t.pass ≡ number_of s.pass

-- How many keys a partition has, by one look, which is the last event of its history that the caller knows; or another
-- caller had the partition; or there is none of this number
abbrev pub Counts : Share → Share → ℕ → Result ℕ Code → Type 0
Counts s t partition (Ok keys) = OnlySees s t × ((size : ℕ) × Turned stepped s.pass t.pass partition call.Looks (HasSize size keys)) × (keys ≡ fin.len (map_at (seen_of t.pass) partition))
Counts s t partition (Err WouldBlock) = OnlySees s t × Missed s.pass t.pass
Counts s t partition (Err BadSize) = (t ≡ s) × (128 ≤ partition)
Counts s t partition (Err code) = ⊥

-- the keys of entries, each of one word
abbrev pub keys_of : {S : Type 0} → List (List ℕ × S) → List ℕ
keys_of entries = map (λ e. slice_index e.0 0) entries

-- the words under them
abbrev pub words_under : List (List ℕ × ℕ) → List ℕ
words_under entries = map (λ e. e.1) entries

-- a row begins with these, and the rest of it is as before
pub record Begins {A : Type 0} (before after front : List A) : Type 0 where
  pub begins : take (length front) after ≡ front
  pub rest : drop (length front) after ≡ drop (length front) before
  pub room : length after ≡ length before

-- these keys and the words under them are written to two rows, and counted; or a row is shorter than they are
abbrev pub Writes : (found under keys words keys' words' : List ℕ) → Code → ℕ → Type 0
Writes found under keys words keys' words' Done n = (n ≡ length found) × Begins keys keys' found × Begins words words' under
Writes found under keys words keys' words' ShortBuffer n = (n ≡ length found) × ((length keys < n) ⊎ (length words < n)) × (keys' ≡ keys) × (words' ≡ words)
Writes found under keys words keys' words' code n = ⊥

-- nothing is written
abbrev pub HasNothing : (keys words keys' words' : List ℕ) → ℕ → Type 0
HasNothing keys words keys' words' n = (keys' ≡ keys) × (words' ≡ words) × (n ≡ 0)

-- an entry of this partition, and so of no other: its key has one word
abbrev pub IsEntryOf : {S : Type 0} → ℕ → List ℕ × S → Type 0
IsEntryOf partition e = (length e.0 ≡ 1) × (partition_of (hash_of e.0) ≡ partition)

-- The partition was listed, which is the last event of its history that the caller knows: the entries are those of its
-- map, each once
pub record IsListed (s t : Share) (partition : ℕ) (entries : List (List ℕ × ℕ)) : Type 0 where
  pub event : Turned stepped s.pass t.pass partition call.Lists (Listed (Some entries))
  pub all : ListsAll (map_at (seen_of t.pass) partition) entries
  pub keys : All (IsEntryOf partition) entries

-- A partition was listed, and its entries are written, or a row is too short for them; or there was no memory for them;
-- or another caller had the partition; or there is none of this number
abbrev pub Lists : Share → Share → ℕ → (keys words keys' words' : List ℕ) → Code → ℕ → Type 0
Lists s t partition keys words keys' words' WouldBlock n = OnlySees s t × Missed s.pass t.pass × HasNothing keys words keys' words' n
Lists s t partition keys words keys' words' NoMemory n = OnlySees s t × Turned stepped s.pass t.pass partition call.Lists (Listed None) × HasNothing keys words keys' words' n
Lists s t partition keys words keys' words' BadSize n = (t ≡ s) × (128 ≤ partition) × HasNothing keys words keys' words' n
Lists s t partition keys words keys' words' code n = OnlySees s t × ((entries : List (List ℕ × ℕ)) × IsListed s t partition entries × Writes (keys_of entries) (words_under entries) keys words keys' words' code n)
