-- What a listing wrote, of the entries as pairs.
use Rattle.std.proofs.Common.{◌≡◌, ℕ, List, [], ◌∷◌, Option, Result, Ok, Err, IfOk, IfErr, Vec, Global, length, map, slice_index, refl, sym, ap, subst}
use Rattle.std.specs.declared.alloc.AllocError.{AllocError}
use Rattle.std.specs.List.{All}
use Rattle.std.proofs.lemmas.List.Elements.{All-cons, All-head, All-nil, All-tail}
use Rattle.dshash_core.specs.Cells.{partition_of}
use Rattle.dshash_core.specs.Key.{hash_of}
use Rattle.dshash_core.specs.Listing.{pairs_of}
use Rattle.dshash_core.specs.Outcome.{ListsAll}
use Rattle.dshash_core.specs.declared.entries.Entry.{Entry}
use Rattle.dshash_parts.specs.Asked.{listed_of}
use Rattle.dshash_parts.specs.Tables.{AreKeysOf, Turned, key_words_of, map_at}
use Rattle.dshash_parts.specs.declared.histories.PartitionCalls.TheVariants.{Lists as Listing}
use Rattle.dshash_parts.specs.declared.table.Dshash.{Dshash}
use Rattle.lock_book.specs.Shown.{seen_of}
use Rattle.c_table.specs.Looks.{IsEntryOf, keys_of}
use Rattle.c_records.specs.Looks.{HasNothing, IsListed, Lists, OnlySees, Writes, records_under}
use Rattle.c_records.specs.Values.{stepped}
use Rattle.c_table.specs.declared.code.Code.{Code}
use Rattle.c_table.specs.declared.code.Code.TheVariants.{Absent, BadCallers, BadSize, Blank, Done, Grown, InUse, NoMemory, NoSpace, ShortBuffer, WouldBlock}
use Rattle.c_records.specs.declared.shared.Share.{Share}
use Rattle.c_records.specs.declared.value.Record.{Record}
use Rattle.c_records.specs.declared.value.RecordCall.{RecordCall}

-- an entry of a table of records
abbrev pub RecordEntry : Type 0
RecordEntry = Entry Record Record RecordCall (Option Record)

keys_are : (es : List RecordEntry) → map (λ (e : RecordEntry). slice_index e.key 0) es ≡ keys_of (pairs_of es)
keys_are [] = refl
keys_are (e ∷ es) = ap (λ (l : List ℕ). slice_index e.key 0 ∷ l) (keys_are es)

records_are : (es : List RecordEntry) → map (λ (e : RecordEntry). e.state) es ≡ records_under (pairs_of es)
records_are [] = refl
records_are (e ∷ es) = ap (λ (l : List Record). e.state ∷ l) (records_are es)

-- keys of a partition of a table of keys of one word have one word
one_word : (t : Dshash Record Record RecordCall (Option Record)) (number : ℕ) (pairs : List (List ℕ × Record)) → key_words_of t ≡ 1 → AreKeysOf t number pairs → All (IsEntryOf number) pairs
one_word t number pairs is all = subst (λ (n : ℕ). All (λ (p : List ℕ × Record). (length p.0 ≡ n) × (partition_of (hash_of p.0) ≡ number)) pairs) is all

one_word_each : (number : ℕ) (es : List RecordEntry) → All (IsEntryOf number) (pairs_of es) → All (λ (e : RecordEntry). length e.key ≡ 1) es
one_word_each number [] all = All-nil (λ (e : RecordEntry). length e.key ≡ 1)
one_word_each number (e ∷ es) all =
    All-cons (λ (x : RecordEntry). length x.key ≡ 1) e es (All-head (IsEntryOf number) (e.key, e.state) (pairs_of es) all).0
    (one_word_each number es (All-tail (IsEntryOf number) (e.key, e.state) (pairs_of es) all))

-- what a listing comes to: its entries, if there was memory for them
abbrev pub Found : Type 0
Found = Result (Vec RecordEntry Global) AllocError

pub short : (t : Dshash Record Record RecordCall (Option Record)) (number : ℕ) (r : Found) → key_words_of t ≡ 1 → IfOk r (λ v. AreKeysOf t number (pairs_of v.items)) → IfOk r (λ v. All (λ (e : RecordEntry). length e.key ≡ 1) v.items)
short t number (Ok v) is all = one_word_each number v.items (one_word t number (pairs_of v.items) is all)
short t number (Err e) is all = tt

-- the entries of a listing were written, or a row is too short
listed : (s t : Share) (partition : ℕ) (es : List RecordEntry) (keys : List ℕ) (records : List Record) (keys' : List ℕ) (records' : List Record) (code : Code) (n : ℕ) → OnlySees s t → IsListed s t partition (pairs_of es)
    → Writes (map (λ (e : RecordEntry). slice_index e.key 0) es) (map (λ (e : RecordEntry). e.state) es) keys records keys' records' code n → Lists s t partition keys records keys' records' code n
listed s t partition es keys records keys' records' code n sees all wrote =
    by code (subst (λ (w : List Record). Writes (keys_of (pairs_of es)) w keys records keys' records' code n) (records_are es) (subst (λ (k : List ℕ). Writes k (map (λ (e : RecordEntry). e.state) es) keys records keys' records' code n) (keys_are es) wrote))
  where
    by : (code : Code) → Writes (keys_of (pairs_of es)) (records_under (pairs_of es)) keys records keys' records' code n → Lists s t partition keys records keys' records' code n
    by Done w = (sees, (pairs_of es, all, w))
    by ShortBuffer w = (sees, (pairs_of es, all, w))
    by WouldBlock w = absurd w
    by Absent w = absurd w
    by Grown w = absurd w
    by Blank w = absurd w
    by NoMemory w = absurd w
    by BadSize w = absurd w
    by BadCallers w = absurd w
    by NoSpace w = absurd w
    by InUse w = absurd w

-- what a listing came to was written, if there was memory for it
pub found : (s t : Share) (partition : ℕ) (table : Dshash Record Record RecordCall (Option Record)) (r : Found) (keys : List ℕ) (records : List Record) (keys' : List ℕ) (records' : List Record) (code : Code) (n : ℕ) → OnlySees s t → key_words_of table ≡ 1
    → Turned stepped s.pass t.pass partition Listing (listed_of (λ v. pairs_of v.items) r) → IfOk r (λ v. ListsAll (map_at (seen_of t.pass) partition) (pairs_of v.items)) → IfOk r (λ v. AreKeysOf table partition (pairs_of v.items))
    → IfOk r (λ v. Writes (map (λ (e : RecordEntry). slice_index e.key 0) v.items) (map (λ (e : RecordEntry). e.state) v.items) keys records keys' records' code n)
    → IfErr r (λ _. (code ≡ NoMemory) × HasNothing keys records keys' records' n) → Lists s t partition keys records keys' records' code n
found s t partition table (Ok v) keys records keys' records' code n sees one turn all keyed some none =
    listed s t partition v.items keys records keys' records' code n sees (record { event = turn; all = all; keys = one_word table partition (pairs_of v.items) one keyed }) some
found s t partition table (Err e) keys records keys' records' code n sees one turn all keyed some none = subst (λ (z : Code). Lists s t partition keys records keys' records' z n) (sym none.0) (sees, turn, none.1)
