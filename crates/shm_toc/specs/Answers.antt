-- Which answer comes when.
use Rattle.std.specs.Prelude.{◌≡◌, ℕ, ◌<◌, ◌≤◌, None, Some}
use Rattle.word_map.specs.WordMap.{WordMap, at}
use Rattle.shm_toc.specs.Table.{Table, free_bytes_of, place_of}
use Rattle.shm_toc.specs.declared.table.TocAnswer.{TocAnswer}
use Rattle.shm_toc.specs.declared.table.TocAnswer.TheVariants.{TocFull, KeyThere}

-- the bytes that are left are too few for what is wanted
abbrev pub IsFull : Table → ℕ → TocAnswer → Type 0
IsFull t needed (TocFull wanted free) = (wanted ≡ needed) × (free ≡ free_bytes_of t) × (free < wanted)
IsFull t needed (KeyThere at) = ⊥

-- why an entry is refused: its key is there with that place, or it is new and its 16 bytes are not left
abbrev pub IsRefused : Table → ℕ → TocAnswer → Type 0
IsRefused t key (TocFull wanted free) = (place_of t.entries key ≡ None) × IsFull t 16 (TocFull wanted free)
IsRefused t key (KeyThere at) = place_of t.entries key ≡ Some at

-- the words from word `from` on stay
abbrev pub StaysFrom : ℕ → WordMap → WordMap → Type 0
StaysFrom from old new = (k : ℕ) → from ≤ k → at new k ≡ at old k
