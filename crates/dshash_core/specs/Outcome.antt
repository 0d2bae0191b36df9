-- What calls of a partition answer, and what they make of its map: the steps of dshash.c's find, find_or_insert and
-- delete in one. Each relation is over plain data, so that a history of a partition under a lock can be stated by them.
use Rattle.std.specs.Prelude.{◌≡◌, ℕ, ◌<◌, ◌≤◌, ◌==◌, Bool, true, false, not, ◌&&◌, nat_lt, List, length, Option, Some, None, is_some, is_none, IfSome}
use Rattle.std.specs.FinMap as fin
use Rattle.atomic_table.specs.Seated.{TableId}
use Rattle.region_words.specs.declared.chunk.Chunk.{Chunk}
use Rattle.dshash_core.specs.Key.{seeded_hash}
use Rattle.dshash_core.specs.Cells.{KeyMap, bucket_of, full_above}
use Rattle.dshash_core.specs.declared.outcome.CoreOut.{CoreOut}
use Rattle.dshash_core.specs.declared.outcome.CoreOut.TheVariants.{Done, NeedItem, TooFull}

-- the map with this state under the key, or without the key, and as before at all others
abbrev pub changed : {S : Type 0} → KeyMap S → List ℕ → Option S → KeyMap S
changed m key (Some state) = fin.insert m key state
changed m key None = fin.remove m key

-- the call would put in a key that is not there
abbrev pub would_insert : {S : Type 0} → KeyMap S → List ℕ → Option S → Bool
would_insert m key next = not (fin.contains_key m key) && is_some next

-- the call takes a key out
abbrev pub removes : {S : Type 0} → KeyMap S → List ℕ → Option S → Bool
removes m key next = fin.contains_key m key && is_none next

-- the call takes out whatever is under a key
abbrev pub AlwaysRemoves : {S C R : Type 0} → (Option S → C → Option S × R) → C → Type 0
AlwaysRemoves {S} step call = (s : S) → (step (Some s) call).0 ≡ None

-- the partition has to grow before it inserts (dshash.c, dshash_find_or_insert: its count exceeds
-- MAX_COUNT_PER_PARTITION); at size 20 it grows no more
abbrev pub is_full : {S : Type 0} → KeyMap S → ℕ → Bool
is_full m size = nat_lt (full_above size) (fin.len m) && nat_lt size 20

-- what the step makes of the key's state
abbrev pub next_of : {S C R : Type 0} → (Option S → C → Option S × R) → KeyMap S → List ℕ → C → Option S
next_of step before key call = (step (fin.get before key) call).0

module _ {S C R : Type 0} (step : Option S → C → Option S × R) (size : ℕ) (before : KeyMap S) (key : List ℕ) (call : C) (spare : Bool) where
  -- the call was made: the key has the state of its step and no other key changes. An item that came and was not taken
  -- is handed back, and that of a key that went is handed out
  pub record IsDone (reply : R) (unused freed : Bool) (after : KeyMap S) : Type 0 where
    pub replied : reply ≡ (step (fin.get before key) call).1
    pub steps : after ≡ changed before key (next_of step before key call)
    pub may : would_insert before key (next_of step before key call) ≡ true → (is_full before size ≡ false) × (spare ≡ true)
    pub unused_is : unused ≡ (spare && not (would_insert before key (next_of step before key call)))
    pub freed_is : freed ≡ removes before key (next_of step before key call)

  -- the call would insert, may do so, and brought no item
  pub record IsNeedItem (after : KeyMap S) : Type 0 where
    pub inserts : would_insert before key (next_of step before key call) ≡ true
    pub room : is_full before size ≡ false
    pub bare : spare ≡ false
    pub same : after ≡ before

  -- the call would insert into a full partition of that size, and gets its item back
  pub record IsTooFull (told : ℕ) (back : Bool) (after : KeyMap S) : Type 0 where
    pub inserts : would_insert before key (next_of step before key call) ≡ true
    pub full : is_full before size ≡ true
    pub told_is : told ≡ size
    pub back_is : back ≡ spare
    pub same : after ≡ before

  -- the answer is the one that comes, and `after` is the map then
  abbrev pub IsOutcome : {O D : Type 0} → CoreOut O S D R → KeyMap S → Type 0
  IsOutcome (Done reply unused freed) after = IsDone reply (is_some unused) (is_some freed) after
  IsOutcome NeedItem after = IsNeedItem after
  IsOutcome (TooFull told back) after = IsTooFull told (is_some back) after

-- the number of keys of the map that are in a bucket of a partition of a size, with hashes of this seed
abbrev pub keys_in : {S : Type 0} → ℕ → KeyMap S → ℕ → ℕ → ℕ
keys_in seed m size bucket = fin.len (fin.retain_keys m (λ k. bucket_of size (seeded_hash seed k) == bucket))

-- the call would insert, the partition need not grow first, and the key's bucket has `longest` keys or more
pub record IsCrowded {S C R : Type 0} (step : Option S → C → Option S × R) (seed size : ℕ) (cells : KeyMap S) (key : List ℕ) (call : C) (longest : ℕ) : Type 0 where
  pub inserts : would_insert cells key (next_of step cells key call) ≡ true
  pub room : is_full cells size ≡ false
  pub long : longest ≤ keys_in seed cells size (bucket_of size (seeded_hash seed key))

-- what is handed out: the spare item itself, if it was not taken, and a whole item of the region, if one was freed
abbrev pub HandsOut : {O S C R : Type 0} → TableId → ℕ → Option Chunk → CoreOut O S C R → Type 0
HandsOut region item_bytes spare (Done reply unused freed) = IfSome unused (λ c. spare ≡ Some c) × IfSome freed (λ c. (c.part.region ≡ region) × (c.bytes ≡ item_bytes))
HandsOut region item_bytes spare NeedItem = Unit {0}
HandsOut region item_bytes spare (TooFull told back) = back ≡ spare

-- a list has each entry of the map once
pub record ListsAll {S : Type 0} (m : KeyMap S) (entries : List (List ℕ × S)) : Type 0 where
  pub all : fin.from_entries entries ≡ m
  pub once : length entries ≡ fin.len m

-- a move to a size above the partition's, up to 20, sets that size and keeps the map; any other move changes nothing
-- (dshash.c, resize: if another process has done it already there is nothing to do)
pub record IsMoved {S : Type 0} (size : ℕ) (before : KeyMap S) (to after_size : ℕ) (after : KeyMap S) : Type 0 where
  pub same : after ≡ before
  pub size_is : size < to → to ≤ 20 → after_size ≡ to
  pub otherwise : (size < to → to ≤ 20 → ⊥) → after_size ≡ size
