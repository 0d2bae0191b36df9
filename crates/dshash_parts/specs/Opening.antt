-- How a table is made: the slices of its partitions, what was asked of the area for them, and how the partitions open.
use Rattle.std.specs.Prelude.{◌≡◌, ℕ, zero, suc, ◌+◌, ◌<◌, ◌≤◌, ◌⊎◌, Bool, List, [], ◌∷◌, ◌++◌, length, map, replicate}
use Rattle.atomic_table.specs.Seated.{TableId}
use Rattle.region_words.specs.declared.chunk.Chunk.{Chunk}
use Rattle.dsa_area.specs.Sizes.{chunk_size}
use Rattle.dsa_area.specs.declared.area.Area.{Area}
use Rattle.dsa_area.specs.declared.area.AreaPass.{AreaPass}
use Rattle.dshash_parts.specs.States.{PartitionState, fresh}
use Rattle.dshash_parts.specs.Traces.{Request, Got, Missed, Gave, Requested}
use Rattle.dshash_parts.specs.declared.histories.PartitionName.{PartitionName}
use Rattle.dshash_parts.specs.declared.open.DsNew.{DsNew}
use Rattle.dshash_parts.specs.declared.open.DsNew.TheVariants.{NoSpace, Memory}

-- the pass p of the area became q by these requests, in order, and no others
abbrev pub Asks : Area → AreaPass → AreaPass → List Request → Type 0
Asks a p q [] = q ≡ p
Asks a p q (r ∷ rs) = (u : AreaPass) × Requested a p u r × Asks a u q rs

-- slices of this region, each the chunk that the area grants for a word
abbrev pub AreSlices : TableId → List Chunk → Type 0
AreSlices region [] = Unit {0}
AreSlices region (c ∷ cs) = (c.part.region ≡ region) × (8 ≤ c.bytes) × (c.bytes ≡ chunk_size 8) × AreSlices region cs

-- chunks of this region, each of a word at least
abbrev pub HaveWords : TableId → List Chunk → Type 0
HaveWords region [] = Unit {0}
HaveWords region (c ∷ cs) = (c.part.region ≡ region) × (8 ≤ c.bytes) × HaveWords region cs

-- slices that go back: for each of these answers one, which the area took if the answer says so
abbrev pub gave_slices : List Bool → List Request
gave_slices answers = map (λ (accepted : Bool). Gave (chunk_size 8) accepted) answers

-- this many slices went back
abbrev pub GaveSlices : Area → AreaPass → AreaPass → ℕ → Type 0
GaveSlices a p q n = (answers : List Bool) × (length answers ≡ n) × Asks a p q (gave_slices answers)

-- one slice was granted for each of these answers, the next one was refused, and they went back, so answered
abbrev pub refused_after : List Bool → ℕ → ℕ → List Request
refused_after answers pages largest = replicate (length answers) (Got 8) ++ Missed 8 pages largest ∷ gave_slices answers

-- There is no table. A slice was refused, and those that were granted went back; or there was no memory: before a slice
-- was asked for, or when there were all 128, which are dropped
abbrev pub IsNoTable : Area → AreaPass → AreaPass → DsNew → Type 0
IsNoTable a p q (NoSpace pages largest) = (answers : List Bool) × (length answers < 128) × Asks a p q (refused_after answers pages largest)
IsNoTable a p q Memory = Asks a p q [] ⊎ Asks a p q (replicate 128 (Got 8))

-- the names of this many partitions from this number on, each with the state of a new one
abbrev pub opens_from : {S : Type 0} → TableId → ℕ → ℕ → ℕ → ℕ → ℕ → List (PartitionName × PartitionState S)
opens_from region seed key_words item_bytes number zero = []
opens_from region seed key_words item_bytes number (suc n) = (record { region = region; number = number; seed = seed; key_words = key_words; item_bytes = item_bytes }, fresh) ∷ opens_from region seed key_words item_bytes (number + 1) n
